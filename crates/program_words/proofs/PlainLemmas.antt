-- What `clap` makes of `check` and two words that begin with another byte than `-`.
use Rattle.std.proofs.Common.{◌≡◌, ◌≢◌, ℕ, List, [], ◌∷◌, refl, ◌∙◌, ap, ap₂, false, nat_eq, codes, None, Some}
use Rattle.std.proofs.lemmas.Bool.{ne_eqb}
use Rattle.std.specs.Prelude.{find, unwrap_or}
use Rattle.std.specs.Str.{bytes_eq}
use Rattle.clap.specs.Lexer.{long_of, short_of}
use Rattle.clap.specs.Walk.{Held, Rule, Text, Walk, after_step, answers_to, arg_by_index, finished, idle, nothing_held, settled, to_positional, value, walk, walk_from, walked, word_met}
use Rattle.clap.specs.Simple.{Shape, built, label_of, new_shape, subcommand_of}
use Rattle.clap.specs.Kinds.{Kinds, or_else}
use Rattle.clap.specs.Faults.{check_fault, defaults_fault, fault_of, level_fault, settle_fault, step_fault, turn_fault, walk_fault, word_fault}
use Rattle.clap.proofs.OnLiterals.{clap_on_literals}
use Rattle.program_words.specs.Forms.{Check, asked_by, symphony}
use Rattle.program_words.specs.Laws.{IsPlainWord}

-- `clap`'s tests of a word that may be an option, or the sign that options end
pub record IsNoFlag (word : Text) : Type 0 where
  pub sign : bytes_eq word (45 ∷ 45 ∷ []) ≡ false
  pub long : long_of word ≡ None
  pub short : short_of word ≡ None

is_other : (b : ℕ) → b ≢ 45 → nat_eq b 45 ≡ false
is_other b other = ne_eqb b 45 other

pub no_flag : (word : Text) → IsPlainWord word → IsNoFlag word
no_flag [] plain = absurd plain
no_flag (b ∷ rest) plain = let other = is_other b plain in record {
  sign = rw other refl;
  long = rw other refl;
  short = rw other refl;
}

-- a walk between two words of which none was an option
abbrev pub between : Held → ℕ → Walk
between h position = record { held = h; waiting = idle; position = position; is_trailing = false; stopped = None }

word_is : (c : List Rule) (h : Held) (position : ℕ) (word : Text) → IsNoFlag word → word_met c [] false idle position word h ≡ (h, value)
word_is c h position word plain = rw (plain.sign, plain.long, plain.short) refl

no_fault : (s : Shape) (h : Held) (word : Text) → IsNoFlag word → word_fault s [] false idle word h ≡ []
no_fault s h word plain = rw (plain.sign, plain.long, plain.short) refl

pub walked_on : (c : List Rule) (h : Held) (position : ℕ) (word : Text) → IsNoFlag word
    → walked c [] (between h position) word ≡ to_positional c (arg_by_index c position) word (between h position) h
unfolding walked
walked_on c h position word plain = ap (λ met. after_step c word (between h position) met.0 met.1) (word_is c h position word plain)

pub turned_on : (s : Shape) (h : Held) (position : ℕ) (word : Text) → IsNoFlag word
    → turn_fault s [] (between h position) word ≡ step_fault s position h value
turned_on s h position word plain =
    ap₂ (λ faults met. or_else faults (step_fault s position met.0 met.1)) (no_fault s h word plain) (word_is s.rules h position word plain)

-- `check` as it is built
abbrev check_built : Shape
check_built = unwrap_or (find (λ s. answers_to (codes "check") (label_of s)) (built symphony).subs) (new_shape [])

abbrev after_model : Text → Walk
after_model model = to_positional check_built.rules (arg_by_index check_built.rules 1) model (between nothing_held 1) nothing_held

abbrev after_cert : Text → Text → Walk
after_cert model cert =
    to_positional check_built.rules (arg_by_index check_built.rules 2) cert (after_model model) (after_model model).held

walk_is : (model cert : Text) → IsNoFlag model → IsNoFlag cert → walk check_built.rules [] nothing_held (model ∷ cert ∷ []) ≡ after_cert model cert
unfolding clap_on_literals
walk_is model cert is_model is_cert =
    ap (λ (w : Walk). walked check_built.rules [] w cert) (walked_on check_built.rules nothing_held 1 model is_model)
    ∙ walked_on check_built.rules (after_model model).held 2 cert is_cert

faults_are : (model cert : Text) → IsNoFlag model → IsNoFlag cert → walk_fault check_built [] (walk_from nothing_held) (model ∷ cert ∷ []) ≡ []
unfolding clap_on_literals
faults_are model cert is_model is_cert =
    ap₂ (λ first second. or_else first (or_else second [])) (turned_on check_built nothing_held 1 model is_model)
    (ap (λ (w : Walk). turn_fault check_built [] w cert) (walked_on check_built.rules nothing_held 1 model is_model)
    ∙ turned_on check_built (after_model model).held 2 cert is_cert)

-- what is left to look at behind the words
abbrev at_end : Kinds → Walk → Kinds
at_end faults w =
    or_else faults (or_else (settle_fault check_built.rules check_built.args_override_self w.held)
    (or_else (defaults_fault (settled check_built.rules w.held).rows check_built.rules) (check_fault check_built (finished check_built.rules w.held) false)))

below_is : (model cert : Text) → IsNoFlag model → IsNoFlag cert → level_fault check_built [] nothing_held (model ∷ cert ∷ []) false [] ≡ []
unfolding clap_on_literals
below_is model cert is_model is_cert = ap₂ at_end (faults_are model cert is_model is_cert) (walk_is model cert is_model is_cert) ∙ refl

pub check_alone : (name model cert : Text) → IsNoFlag model → IsNoFlag cert → fault_of symphony (name ∷ codes "check" ∷ model ∷ cert ∷ []) ≡ []
unfolding clap_on_literals
check_alone name model cert is_model is_cert = ap (λ below. or_else below []) (below_is model cert is_model is_cert)

pub check_asks : (name model cert : Text) → IsNoFlag model → IsNoFlag cert
    → asked_by (subcommand_of symphony (name ∷ codes "check" ∷ model ∷ cert ∷ [])) ≡ Check model cert
unfolding clap_on_literals
check_asks name model cert is_model is_cert =
    ap (λ (w : Walk). asked_by (Some (codes "check", finished check_built.rules w.held))) (walk_is model cert is_model is_cert)
