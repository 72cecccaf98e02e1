-- The bounds that words ask for are below 10^20 in magnitude.
use Rattle.std.proofs.Common.{◌≡◌, ℕ, List, [], ◌∷◌, Bool, true, false, refl, subst, if◌then◌else◌, Option, Some, None}
use Rattle.std.specs.Prelude.{IfSome, codes}
use Rattle.std.specs.Str.{bytes_eq}
use Rattle.std.proofs.lemmas.Bool.{or_from}
use Rattle.frac128.specs.Rational.{ℚ, neg_ℚ, rational_le}
use Rattle.frac_text.specs.declared.numeral.Side.TheVariants.{Above, Between, Below}
use Rattle.lp_model.specs.Edits.{Named}
use Rattle.lp_model.specs.declared.types.Edit.TheVariants.{SetCost, SetCost2, SetRow, SetColBounds, AddCol}
use Rattle.text_lines.specs.Words.{Words}
use Rattle.frac_text.specs.Sides.{far}
use Rattle.edit_words.specs.declared.kinds.EditKind.{EditKind}
use Rattle.edit_words.specs.declared.kinds.EditKind.TheVariants as kind
use Rattle.edit_words.specs.declared.asked.RowPlace.{RowPlace}
use Rattle.edit_words.specs.declared.asked.RowPlace.TheVariants.{Last, Same}
use Rattle.edit_words.specs.Forms.{fits}
use Rattle.edit_words.specs.NewBounds.{BringsBounds, IsNearBound, NewPartsLaw}
use Rattle.edit_words.specs.EditWords.{EditAsks, Edits, Misused, NoNumber, EntriesAsk, AreRead, AreMisused, HasNoNumber, number_in, side_in, lower_at, upper_at, lower_read, upper_read, is_none_word, lower_in, upper_in, entries_of, with_read, with_entries, is_int_word, sides_edit, cost_asks, cost2_asks, row_asks, bounds_asks, kind_asks, addcol_asks, delcol_asks, delrow_asks, whole_row_edit, whole_row_asks, edit_kind_of, slots_of, has_pairs, meaning, formed_asks, edit_asks}
use Rattle.edit_words.proofs.NameLemmas.{IsNamedNew, asked-named}

-- an edit that is asked for brings such bounds
abbrev pub IsBoundedNear : EditAsks → Type 0
IsBoundedNear (Edits e) = BringsBounds IsNearBound e
IsBoundedNear Misused = Unit {0}
IsBoundedNear (NoNumber word) = Unit {0}

-- ---- what a word says

near-lower : (x : Option ℚ) → IfSome (lower_read x) IsNearBound
near-lower None = tt
near-lower (Some x) = by (rational_le far x) (rational_le x (neg_ℚ far)) refl refl
  where
    by : (a b : Bool) → rational_le far x ≡ a → rational_le x (neg_ℚ far) ≡ b → IfSome (lower_at (if a then Above else if b then Below else Between) x) IsNearBound
    by true b e f = tt
    by false true e f = refl
    by false false e f = or_from (rational_le far x) (rational_le x (neg_ℚ far)) e f

near-upper : (x : Option ℚ) → IfSome (upper_read x) IsNearBound
near-upper None = tt
near-upper (Some x) = by (rational_le far x) (rational_le x (neg_ℚ far)) refl refl
  where
    by : (a b : Bool) → rational_le far x ≡ a → rational_le x (neg_ℚ far) ≡ b → IfSome (upper_at (if a then Above else if b then Below else Between) x) IsNearBound
    by true b e f = refl
    by false true e f = tt
    by false false e f = or_from (rational_le far x) (rational_le x (neg_ℚ far)) e f

lower-word : (word : List ℕ) → IfSome (lower_in word) IsNearBound
unfolding lower_in
lower-word word = by (is_none_word word)
  where
    by : (b : Bool) → IfSome (if b then Some None else lower_read (number_in word)) IsNearBound
    by true = refl
    by false = near-lower (number_in word)

upper-word : (word : List ℕ) → IfSome (upper_in word) IsNearBound
unfolding upper_in
upper-word word = by (is_none_word word)
  where
    by : (b : Bool) → IfSome (if b then Some None else upper_read (number_in word)) IsNearBound
    by true = refl
    by false = near-upper (number_in word)

-- ---- by the words of each kind

read-near : {A : Type 0} (P : A → Type 0) (word : List ℕ) (o : Option A) (asks : A → EditAsks) → IfSome o P → ((x : A) → P x → IsBoundedNear (asks x)) → IsBoundedNear (with_read word o asks)
read-near P word None asks said h = tt
read-near P word (Some x) asks said h = h x said

any-read : {A : Type 0} (word : List ℕ) (o : Option A) (asks : A → EditAsks) → ((x : A) → IsBoundedNear (asks x)) → IsBoundedNear (with_read word o asks)
any-read word None asks h = tt
any-read word (Some x) asks h = h x

entries-near : (a : EntriesAsk) (asks : Named → EditAsks) → ((named : Named) → IsBoundedNear (asks named)) → IsBoundedNear (with_entries a asks)
entries-near (AreRead named) asks h = h named
entries-near AreMisused asks h = tt
entries-near (HasNoNumber word) asks h = tt

cost-near : (words : Words) → IsBoundedNear (cost_asks words)
cost-near [] = tt
cost-near (a ∷ []) = tt
cost-near (col ∷ v ∷ []) = any-read v (number_in v) (λ x. Edits (SetCost col x)) (λ x. tt)
cost-near (a ∷ b ∷ c ∷ more) = tt

cost2-near : (words : Words) → IsBoundedNear (cost2_asks words)
cost2-near [] = tt
cost2-near (a ∷ []) = tt
cost2-near (col ∷ v ∷ []) = any-read v (number_in v) (λ x. Edits (SetCost2 col x)) (λ x. tt)
cost2-near (a ∷ b ∷ c ∷ more) = tt

sides-near : (row which : List ℕ) (a b : Bool) (v : Option ℚ) → BringsBounds IsNearBound (if a then SetRow row (Some v) None else if b then SetRow row None (Some v) else SetRow row (Some v) (Some v))
sides-near row which true b v = tt
sides-near row which false true v = tt
sides-near row which false false v = tt

row-near : (words : Words) → IsBoundedNear (row_asks words)
row-near [] = tt
row-near (a ∷ []) = tt
row-near (a ∷ b ∷ []) = tt
row-near (row ∷ which ∷ v ∷ []) = any-read v (side_in v) (λ x. Edits (sides_edit row which x)) (λ x. sides-near row which (bytes_eq which (codes "lo")) (bytes_eq which (codes "hi")) x)
row-near (a ∷ b ∷ c ∷ e ∷ more) = tt

bounds-near : (words : Words) → IsBoundedNear (bounds_asks words)
bounds-near [] = tt
bounds-near (a ∷ []) = tt
bounds-near (a ∷ b ∷ []) = tt
bounds-near (col ∷ lo ∷ up ∷ []) =
    read-near IsNearBound lo (lower_in lo) (λ l. with_read up (upper_in up) (λ u. Edits (SetColBounds col l u))) (lower-word lo) (λ l near.
    read-near IsNearBound up (upper_in up) (λ u. Edits (SetColBounds col l u)) (upper-word up) (λ u also. (near, also)))
bounds-near (a ∷ b ∷ c ∷ e ∷ more) = tt

kind-near : (words : Words) → IsBoundedNear (kind_asks words)
kind-near [] = tt
kind-near (a ∷ []) = tt
kind-near (col ∷ which ∷ []) = tt
kind-near (a ∷ b ∷ c ∷ more) = tt

delcol-near : (words : Words) → IsBoundedNear (delcol_asks words)
delcol-near [] = tt
delcol-near (col ∷ []) = tt
delcol-near (a ∷ b ∷ more) = tt

delrow-near : (words : Words) → IsBoundedNear (delrow_asks words)
delrow-near [] = tt
delrow-near (row ∷ []) = tt
delrow-near (a ∷ b ∷ more) = tt

whole-row : (place : RowPlace) (row : List ℕ) (lo hi : Option ℚ) (named : Named) → BringsBounds IsNearBound (whole_row_edit place row lo hi named)
whole-row Last row lo hi named = tt
whole-row Same row lo hi named = tt

whole_row-near : (place : RowPlace) (words : Words) → IsBoundedNear (whole_row_asks place words)
whole_row-near place [] = tt
whole_row-near place (a ∷ []) = tt
whole_row-near place (a ∷ b ∷ []) = tt
whole_row-near place (row ∷ lo ∷ hi ∷ rest) =
    any-read lo (side_in lo) (λ l. with_read hi (side_in hi) (λ h. with_entries (entries_of rest) (λ named. Edits (whole_row_edit place row l h named)))) (λ l.
    any-read hi (side_in hi) (λ h. with_entries (entries_of rest) (λ named. Edits (whole_row_edit place row l h named))) (λ h.
    entries-near (entries_of rest) (λ named. Edits (whole_row_edit place row l h named)) (λ named. whole-row place row l h named)))

addcol-near : (words : Words) → IsBoundedNear (addcol_asks words)
addcol-near [] = tt
addcol-near (a ∷ []) = tt
addcol-near (a ∷ b ∷ []) = tt
addcol-near (a ∷ b ∷ c ∷ []) = tt
addcol-near (a ∷ b ∷ c ∷ e ∷ []) = tt
addcol-near (a ∷ b ∷ c ∷ e ∷ f ∷ []) = tt
addcol-near (name ∷ which ∷ lo ∷ up ∷ cost ∷ cost2 ∷ rest) =
    read-near IsNearBound lo (lower_in lo) (λ l. with_read up (upper_in up) (λ u. with_read cost (number_in cost) (λ c. with_read cost2 (number_in cost2) (λ d.
    with_entries (entries_of rest) (λ named. Edits (AddCol name (is_int_word which) l u c d named)))))) (lower-word lo) (λ l near.
    read-near IsNearBound up (upper_in up) (λ u. with_read cost (number_in cost) (λ c. with_read cost2 (number_in cost2) (λ d.
    with_entries (entries_of rest) (λ named. Edits (AddCol name (is_int_word which) l u c d named))))) (upper-word up) (λ u also.
    any-read cost (number_in cost) (λ c. with_read cost2 (number_in cost2) (λ d. with_entries (entries_of rest) (λ named. Edits (AddCol name (is_int_word which) l u c d named)))) (λ c.
    any-read cost2 (number_in cost2) (λ d. with_entries (entries_of rest) (λ named. Edits (AddCol name (is_int_word which) l u c d named))) (λ d.
    entries-near (entries_of rest) (λ named. Edits (AddCol name (is_int_word which) l u c d named)) (λ named. (near, also))))))

meaning-near : (k : EditKind) (words : Words) → IsBoundedNear (meaning k words)
meaning-near kind.Cost words = cost-near words
meaning-near kind.Cost2 words = cost2-near words
meaning-near kind.Row words = row-near words
meaning-near kind.Bounds words = bounds-near words
meaning-near kind.Kind words = kind-near words
meaning-near kind.AddCol words = addcol-near words
meaning-near kind.DelCol words = delcol-near words
meaning-near kind.AddRow words = whole_row-near Last words
meaning-near kind.DelRow words = delrow-near words
meaning-near kind.ReplaceRow words = whole_row-near Same words

formed-near : (k : Option EditKind) (words : Words) → IsBoundedNear (formed_asks k words)
formed-near None words = tt
formed-near (Some k) words = by (fits (slots_of k) (has_pairs k) words)
  where
    by : (b : Bool) → IsBoundedNear (if b then meaning k words else Misused)
    by true = meaning-near k words
    by false = tt

pub asked-near : (words : Words) → IsBoundedNear (edit_asks words)
unfolding edit_asks
asked-near [] = tt
asked-near (word ∷ words) = formed-near (edit_kind_of word) words

pub new-parts : NewPartsLaw
new-parts words e is = (subst IsNamedNew is (asked-named words), subst IsBoundedNear is (asked-near words))
