-- The literals of a cover that separation finds rise: they are those of the columns below n that are taken, one after the other.
use Rattle.std.specs.Prelude.{◌≡◌, ℕ, zero, suc, ◌<◌, ◌≤◌, Bool, true, false, if◌then◌else◌, List, [], ◌∷◌, ◌++◌, length, AllPairs, All, Option, Some, None}
use Rattle.std.proofs.Common.{subst, sym, arith, inl, inr}
use Rattle.std.proofs.lemmas.List.Elements.{All-nil, All-push, All-weaker}
use Rattle.std.proofs.lemmas.List.Quantifiers.{all_pairs_push}
use Rattle.lp_model.specs.Program.{Program, Point}
use Rattle.lp_model.specs.declared.types.Derivation.{Derivation}
use Rattle.lp_model.specs.declared.types.Literal.{Literal}
use Rattle.lp_model.specs.declared.types.Side.{Side}
use Rattle.cut_find.specs.Greedy.{is_in, literal_at, literals_below, cover_of, IsViolatedAnswer, AfterDropping, AfterTaking, IsGreedyAnswer}
use Rattle.cut_find.specs.Separation.{FindsNext, FindsBelow}
use Rattle.list_order.specs.Ordered.{IsCutInOrder, AreCutsInOrder}
use Rattle.result_order.specs.Laws.{CutOrderLaw}

module _ (M : Program) (i : ℕ) (s : Side) (js : List ℕ) where
  all-below : (n : ℕ) → All (λ (l : Literal). l.col.0 < n) (literals_below M i s n js)
  all-below zero = All-nil (λ (l : Literal). l.col.0 < 0)
  all-below (suc n) = by (is_in js n) (All-weaker (λ (l : Literal). l.col.0 < n) (λ (l : Literal). l.col.0 < suc n) (λ l h. omega (arith, h)) (literals_below M i s n js) (all-below n))
    where
      by : (b : Bool) → All (λ (l : Literal). l.col.0 < suc n) (literals_below M i s n js) → All (λ (l : Literal). l.col.0 < suc n) (if b then literals_below M i s n js ++ literal_at M i s n ∷ [] else literals_below M i s n js)
      by true h = All-push (λ (l : Literal). l.col.0 < suc n) (literals_below M i s n js) (literal_at M i s n) h (omega arith)
      by false h = h

  literals-rise : (n : ℕ) → AllPairs (λ (a b : Literal). a.col.0 < b.col.0) (literals_below M i s n js)
  literals-rise zero = λ a b d less below. absurd (omega (arith, below))
  literals-rise (suc n) = by (is_in js n) (all-below n) (literals-rise n)
    where
      by : (b : Bool) → All (λ (l : Literal). l.col.0 < n) (literals_below M i s n js) → AllPairs (λ (a b : Literal). a.col.0 < b.col.0) (literals_below M i s n js)
          → AllPairs (λ (a b : Literal). a.col.0 < b.col.0) (if b then literals_below M i s n js ++ literal_at M i s n ∷ [] else literals_below M i s n js)
      by true all h = all_pairs_push (λ (a b : Literal). a.col.0 < b.col.0) (literals_below M i s n js) (literal_at M i s n) h (λ k d below. all k d below)
      by false all h = h

module _ (M : Program) where
  abbrev P : Derivation → Type 0
  P = IsCutInOrder (length M.rows) (length M.cols)

  cover-order : (i : ℕ) (s : Side) (js : List ℕ) → i < length M.rows → P (cover_of M i s js)
  cover-order i s js row = record { row = row; there = all-below M i s js (length M.cols); rising = literals-rise M i s js (length M.cols) }

some-is : (a b : Derivation) → Some a ≡ Some b → a ≡ b
some-is a b e = cc

module _ (M : Program) (i : ℕ) (s : Side) (x : Point) (row : i < length M.rows) (d : Derivation) where
  violated : (js : List ℕ) → IsViolatedAnswer x (cover_of M i s js) (Some d) → P M d
  violated js (r, (adds, inl (above, e))) = subst (P M) (sym (some-is d (cover_of M i s js) e)) (cover-order M i s js row)
  violated js (r, (adds, inr (not, e))) = absurd cc

  dropped : (kept : Option (List ℕ)) → AfterDropping M i s x kept (Some d) → P M d
  dropped None e = absurd cc
  dropped (Some js) h = violated js h

  taken : (o : Option (List ℕ)) → AfterTaking M i s x o (Some d) → P M d
  taken None e = absurd cc
  taken (Some js) (kept, (drops, h)) = dropped kept h

  greedy : IsGreedyAnswer M i s x (Some d) → P M d
  greedy (inl (wide, e)) = absurd cc
  greedy (inr (order, (is, (o, (takes, h))))) = taken o h

found-next : (M : Program) (x : Point) (max i : ℕ) (s : Side) → i < length M.rows → (before after : List Derivation) → FindsNext M x max i s before after → AreCutsInOrder M before → AreCutsInOrder M after
found-next M x max i s row before after (inl (full, e)) h = subst (AreCutsInOrder M) (sym e) h
found-next M x max i s row before after (inr (room, inl (none, e))) h = subst (AreCutsInOrder M) (sym e) h
found-next M x max i s row before after (inr (room, inr (d, (answer, e)))) h = subst (AreCutsInOrder M) (sym e) (All-push (P M) before d h (greedy M i s x row d answer))

found-below : (M : Program) (x : Point) (max n : ℕ) → n ≤ length M.rows → (found : List Derivation) → FindsBelow M x max n found → AreCutsInOrder M found
found-below M x max zero few found e = subst (AreCutsInOrder M) (sym e) (All-nil (P M))
found-below M x max (suc n) few found (before, (rest, (between, (hi, lo)))) =
    found-next M x max n _ (omega (arith, few)) between found lo (found-next M x max n _ (omega (arith, few)) before between hi (found-below M x max n (omega (arith, few)) before rest))

pub cut-order : CutOrderLaw
cut-order M x max found h = found-below M x max (length M.rows) (omega arith) found h
