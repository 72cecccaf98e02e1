-- The bytes of replies that tell the outcomes of a model with two objectives, in the model's own sense, by rising first value.
use Rattle.std.specs.Prelude.{ℕ, List, [], ◌∷◌, ◌++◌, map, length, codes, Option}
use Rattle.std.specs.Fmt.{decimal, signed_decimal}
use Rattle.text_lines.specs.Words.{Words}
use Rattle.frac128.specs.Rational.{ℚ}
use Rattle.lp_model.specs.Program.{Program}
use Rattle.lp_model.specs.Lawful.{column_name}
use Rattle.lp_model.specs.declared.answers.StopWhy.{StopWhy}
use Rattle.frontier.specs.declared.outcomes.Outcome.{Outcome}
use Rattle.cert_writer.specs.CertText.{line_text, lines_text}
use Rattle.reply_texts.specs.Texts.{part_stop_text}
use Rattle.wcn_driver.specs.declared.answers.Part.{Part}
use Rattle.wcn_driver.specs.declared.answers.Part.TheVariants.{Least1, Left, Least2, Right, Gap, Pull}
use Rattle.wcn_driver.specs.declared.answers.ScalePlace.{ScalePlace}
use Rattle.wcn_driver.specs.declared.answers.ScalePlace.TheVariants as place

-- ---- outcomes

abbrev pub value_words : Outcome → Words
value_words o = signed_decimal o.f1 ∷ signed_decimal o.f2 ∷ []

-- `f V1 V2`
abbrev pub row_words : Outcome → Words
row_words o = codes "f" ∷ value_words o

-- `frontier complete K` and `frontier part K`, with how many outcomes follow
abbrev pub head_words : List ℕ → List Outcome → Words
head_words kind outcomes = codes "frontier" ∷ kind ∷ decimal (length outcomes) ∷ []

-- a whole front
abbrev pub complete_front_text : List Outcome → List ℕ
complete_front_text outcomes = lines_text (head_words (codes "complete") outcomes ∷ (map row_words outcomes ++ (codes "end" ∷ []) ∷ []))

-- the outcomes of a part of one; why no more were found is told behind them
abbrev pub front_part_text : List Outcome → List ℕ
front_part_text outcomes = lines_text (head_words (codes "part") outcomes ∷ map row_words outcomes)

-- ---- why no more were found

-- the name of a part of a sweep; its outcomes are in least form, without constants
abbrev pub part_words : Part → Words
part_words Least1 = codes "least1" ∷ []
part_words Left = codes "left" ∷ []
part_words Least2 = codes "least2" ∷ []
part_words Right = codes "right" ∷ []
part_words (Gap p q) = codes "gap" ∷ (value_words p ++ value_words q)
part_words (Pull r) = codes "pull" ∷ value_words r

-- the first number of a part that has no room
abbrev pub scale_place_text : Program → ScalePlace → List ℕ
scale_place_text M place.Width = codes "width"
scale_place_text M (place.Col col) = codes "col " ++ column_name M col.0
scale_place_text M place.Side = codes "side"
scale_place_text M place.Value = codes "value"

abbrev pub scale_stop_text : Program → Part → ScalePlace → List ℕ
scale_stop_text M part place = codes "stopped scale " ++ line_text (part_words part) ++ codes " " ++ scale_place_text M place ++ codes "\n"

-- the search of a part stopped; names are those of M
abbrev pub stopped_front_text : Program → List Outcome → Part → StopWhy → ℕ → Option ℚ → Option ℚ → List ℕ
stopped_front_text M outcomes part why n bound best = front_part_text outcomes ++ (part_stop_text M (line_text (part_words part)) why n bound best ++ codes "end\n")

-- a number of a part has no room
abbrev pub wide_front_text : Program → List Outcome → Part → ScalePlace → List ℕ
wide_front_text M outcomes part place = front_part_text outcomes ++ (scale_stop_text M part place ++ codes "end\n")
