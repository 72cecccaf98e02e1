-- A new row or column that words ask for has a new name.
use Rattle.std.proofs.Common.{◌≡◌, ℕ, List, [], ◌∷◌, Bool, true, false, ◌&&◌, refl, if◌then◌else◌, Option, Some, None}
use Rattle.std.specs.Prelude.{codes}
use Rattle.std.specs.Str.{bytes_eq}
use Rattle.frac128.specs.Rational.{ℚ}
use Rattle.lp_model.specs.Edits.{Named}
use Rattle.lp_model.specs.declared.types.Edit.TheVariants.{SetCost, SetCost2, SetRow, SetColBounds, AddCol}
use Rattle.text_lines.specs.Words.{Words}
use Rattle.edit_words.specs.declared.kinds.EditKind.{EditKind}
use Rattle.edit_words.specs.declared.kinds.EditKind.TheVariants as kind
use Rattle.edit_words.specs.declared.asked.RowPlace.TheVariants.{Last, Same}
use Rattle.lp_model.specs.Names.{is_lawful_name}
use Rattle.edit_words.specs.Forms.{fits}
use Rattle.edit_words.specs.NewNames.{BringsName, IsNewName}
use Rattle.edit_words.specs.EditWords.{EditAsks, Edits, Misused, NoNumber, EntriesAsk, AreRead, AreMisused, HasNoNumber, number_in, side_in, lower_in, upper_in, entries_of, with_read, with_entries, is_int_word, sides_edit, cost_asks, cost2_asks, row_asks, bounds_asks, kind_asks, addcol_asks, delcol_asks, delrow_asks, whole_row_edit, whole_row_asks, edit_kind_of, slots_of, has_pairs, meaning, formed_asks, edit_asks}

-- an edit that is asked for brings such a name
abbrev pub IsNamedNew : EditAsks → Type 0
IsNamedNew (Edits e) = BringsName IsNewName e
IsNamedNew Misused = Unit {0}
IsNamedNew (NoNumber word) = Unit {0}

read-named : {A : Type 0} (word : List ℕ) (o : Option A) (asks : A → EditAsks) → ((x : A) → IsNamedNew (asks x)) → IsNamedNew (with_read word o asks)
read-named word None asks h = tt
read-named word (Some x) asks h = h x

entries-named : (a : EntriesAsk) (asks : Named → EditAsks) → ((named : Named) → IsNamedNew (asks named)) → IsNamedNew (with_entries a asks)
entries-named (AreRead named) asks h = h named
entries-named AreMisused asks h = tt
entries-named (HasNoNumber word) asks h = tt

cost-named : (words : Words) → IsNamedNew (cost_asks words)
cost-named [] = tt
cost-named (a ∷ []) = tt
cost-named (col ∷ v ∷ []) = read-named v (number_in v) (λ x. Edits (SetCost col x)) (λ x. tt)
cost-named (a ∷ b ∷ c ∷ more) = tt

cost2-named : (words : Words) → IsNamedNew (cost2_asks words)
cost2-named [] = tt
cost2-named (a ∷ []) = tt
cost2-named (col ∷ v ∷ []) = read-named v (number_in v) (λ x. Edits (SetCost2 col x)) (λ x. tt)
cost2-named (a ∷ b ∷ c ∷ more) = tt

sides-named : (row which : List ℕ) (a b : Bool) (v : Option ℚ) → BringsName IsNewName (if a then SetRow row (Some v) None else if b then SetRow row None (Some v) else SetRow row (Some v) (Some v))
sides-named row which true b v = tt
sides-named row which false true v = tt
sides-named row which false false v = tt

row-named : (words : Words) → IsNamedNew (row_asks words)
row-named [] = tt
row-named (a ∷ []) = tt
row-named (a ∷ b ∷ []) = tt
row-named (row ∷ which ∷ v ∷ []) = read-named v (side_in v) (λ x. Edits (sides_edit row which x)) (λ x. sides-named row which (bytes_eq which (codes "lo")) (bytes_eq which (codes "hi")) x)
row-named (a ∷ b ∷ c ∷ e ∷ more) = tt

bounds-named : (words : Words) → IsNamedNew (bounds_asks words)
bounds-named [] = tt
bounds-named (a ∷ []) = tt
bounds-named (a ∷ b ∷ []) = tt
bounds-named (col ∷ lo ∷ up ∷ []) =
    read-named lo (lower_in lo) (λ l. with_read up (upper_in up) (λ u. Edits (SetColBounds col l u))) (λ l. read-named up (upper_in up) (λ u. Edits (SetColBounds col l u)) (λ u. tt))
bounds-named (a ∷ b ∷ c ∷ e ∷ more) = tt

kind-named : (words : Words) → IsNamedNew (kind_asks words)
kind-named [] = tt
kind-named (a ∷ []) = tt
kind-named (col ∷ which ∷ []) = tt
kind-named (a ∷ b ∷ c ∷ more) = tt

delcol-named : (words : Words) → IsNamedNew (delcol_asks words)
delcol-named [] = tt
delcol-named (col ∷ []) = tt
delcol-named (a ∷ b ∷ more) = tt

delrow-named : (words : Words) → IsNamedNew (delrow_asks words)
delrow-named [] = tt
delrow-named (row ∷ []) = tt
delrow-named (a ∷ b ∷ more) = tt

replacerow-named : (words : Words) → IsNamedNew (whole_row_asks Same words)
replacerow-named [] = tt
replacerow-named (a ∷ []) = tt
replacerow-named (a ∷ b ∷ []) = tt
replacerow-named (row ∷ lo ∷ hi ∷ rest) =
    read-named lo (side_in lo) (λ l. with_read hi (side_in hi) (λ h. with_entries (entries_of rest) (λ named. Edits (whole_row_edit Same row l h named)))) (λ l.
    read-named hi (side_in hi) (λ h. with_entries (entries_of rest) (λ named. Edits (whole_row_edit Same row l h named))) (λ h.
    entries-named (entries_of rest) (λ named. Edits (whole_row_edit Same row l h named)) (λ named. tt)))

-- ---- where a new name stands in the form

left : (a b : Bool) → a && b ≡ true → a ≡ true
left true b h = refl
left false b h = h

addrow-named : (words : Words) → fits (slots_of kind.AddRow) (has_pairs kind.AddRow) words ≡ true → IsNamedNew (whole_row_asks Last words)
unfolding fits
addrow-named [] fit = tt
addrow-named (a ∷ []) fit = tt
addrow-named (a ∷ b ∷ []) fit = tt
addrow-named (name ∷ lo ∷ hi ∷ rest) fit =
    let new : IsNewName name = left (is_lawful_name name) _ fit in
    read-named lo (side_in lo) (λ l. with_read hi (side_in hi) (λ h. with_entries (entries_of rest) (λ named. Edits (whole_row_edit Last name l h named)))) (λ l.
    read-named hi (side_in hi) (λ h. with_entries (entries_of rest) (λ named. Edits (whole_row_edit Last name l h named))) (λ h.
    entries-named (entries_of rest) (λ named. Edits (whole_row_edit Last name l h named)) (λ named. new)))

addcol-named : (words : Words) → fits (slots_of kind.AddCol) (has_pairs kind.AddCol) words ≡ true → IsNamedNew (addcol_asks words)
unfolding fits
addcol-named [] fit = tt
addcol-named (a ∷ []) fit = tt
addcol-named (a ∷ b ∷ []) fit = tt
addcol-named (a ∷ b ∷ c ∷ []) fit = tt
addcol-named (a ∷ b ∷ c ∷ e ∷ []) fit = tt
addcol-named (a ∷ b ∷ c ∷ e ∷ f ∷ []) fit = tt
addcol-named (name ∷ which ∷ lo ∷ up ∷ cost ∷ cost2 ∷ rest) fit =
    let new : IsNewName name = left (is_lawful_name name) _ fit in
    read-named lo (lower_in lo) (λ l. with_read up (upper_in up) (λ u. with_read cost (number_in cost) (λ c. with_read cost2 (number_in cost2) (λ d.
    with_entries (entries_of rest) (λ named. Edits (AddCol name (is_int_word which) l u c d named)))))) (λ l.
    read-named up (upper_in up) (λ u. with_read cost (number_in cost) (λ c. with_read cost2 (number_in cost2) (λ d.
    with_entries (entries_of rest) (λ named. Edits (AddCol name (is_int_word which) l u c d named))))) (λ u.
    read-named cost (number_in cost) (λ c. with_read cost2 (number_in cost2) (λ d. with_entries (entries_of rest) (λ named. Edits (AddCol name (is_int_word which) l u c d named)))) (λ c.
    read-named cost2 (number_in cost2) (λ d. with_entries (entries_of rest) (λ named. Edits (AddCol name (is_int_word which) l u c d named))) (λ d.
    entries-named (entries_of rest) (λ named. Edits (AddCol name (is_int_word which) l u c d named)) (λ named. new)))))

meaning-named : (k : EditKind) (words : Words) → fits (slots_of k) (has_pairs k) words ≡ true → IsNamedNew (meaning k words)
meaning-named kind.Cost words fit = cost-named words
meaning-named kind.Cost2 words fit = cost2-named words
meaning-named kind.Row words fit = row-named words
meaning-named kind.Bounds words fit = bounds-named words
meaning-named kind.Kind words fit = kind-named words
meaning-named kind.AddCol words fit = addcol-named words fit
meaning-named kind.DelCol words fit = delcol-named words
meaning-named kind.AddRow words fit = addrow-named words fit
meaning-named kind.DelRow words fit = delrow-named words
meaning-named kind.ReplaceRow words fit = replacerow-named words

formed-named : (k : Option EditKind) (words : Words) → IsNamedNew (formed_asks k words)
formed-named None words = tt
formed-named (Some k) words = by (fits (slots_of k) (has_pairs k) words) refl
  where
    by : (b : Bool) → fits (slots_of k) (has_pairs k) words ≡ b → IsNamedNew (if b then meaning k words else Misused)
    by true e = meaning-named k words e
    by false e = tt

pub asked-named : (words : Words) → IsNamedNew (edit_asks words)
unfolding edit_asks
asked-named [] = tt
asked-named (word ∷ words) = formed-named (edit_kind_of word) words
