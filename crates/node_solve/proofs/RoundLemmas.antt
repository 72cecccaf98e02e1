-- Rounds of the work stay as the code keeps them.
use Rattle.std.specs.Prelude.{◌≡◌, ◌≢◌, ◌⊎◌, ◌+◌, ◌-◌, ◌<◌, ◌≤◌, ℕ, true, IsTrue, List, [], ◌∷◌, ◌++◌, length}
use Rattle.std.proofs.Common.{refl, sym, ap, subst, ◌∙◌, arith, inl, inr}
use Rattle.lp_model.specs.Program.{Point}
use Rattle.std.proofs.lemmas.List.{length_push}
use Rattle.std.proofs.lemmas.List.Elements.{All-push, All-weaker}
use Rattle.lp_model.specs.declared.types.Basis.{Basis}
use Rattle.lp_model.specs.declared.types.CutRow.{CutRow}
use Rattle.lp_model.specs.declared.types.Derivation.{Derivation}
use Rattle.cover_cuts.specs.Cuts.{IsCutOf, IsPoolOf}
use Rattle.leaf_dual.specs.Dual.{HavePlaces}
use Rattle.node_solve.specs.Laws.{AreAllLive}
use Rattle.node_solve.specs.Places.{live_cuts, live_places, ArePoolPlaces, with_cut_variables}
use Rattle.node_solve.specs.Rounds.{Work, Round, IsAddable, AddsOne, AddsAll, AddsCovers, MayGoOn}
use Rattle.node_solve.specs.private.Rounds.{IsNextAnswer}
use Rattle.node_solve.specs.private.RoundCode.{round_of, IsKeptRound}
use Rattle.node_solve.specs.declared.rounds.Round.{Round as HeldRound}
use Rattle.node_solve.proofs.LiveLemmas.{live-few, places-length, live-all, live-are, live-at}

pub first_kept : (W : Work) → IsPoolOf W.model W.pool → length W.pool ≤ 10000 → (r : HeldRound) → r.cuts ≡ live_cuts 200 W.pool → r.places.items ≡ live_places 200 0 W.pool → r.added.items ≡ [] → IsKeptRound W r
first_kept W pool few r cuts places added =
    let count : length r.cuts ≡ length (live_cuts 200 W.pool) = ap length cuts in
    let least = live-few 200 W.pool in
    let none : length r.added.items ≡ 0 = ap length added in
    record {
      are = subst (IsPoolOf W.model) (sym cuts) (live-are (IsCutOf W.model) 200 W.pool pool);
      live = subst AreAllLive (sym cuts) (live-all 200 W.pool);
      few = omega (arith, count, least);
      each = ap length places ∙ places-length 200 0 W.pool ∙ sym count;
      there = subst ArePoolPlaces (sym places) (All-weaker (λ (p : ℕ). p < length W.pool) (λ (p : ℕ). p < 10000) (λ p below. omega (arith, below, few)) (live_places 200 0 W.pool) (live-at 200 W.pool).there);
      room = omega (arith, few, none);
    }

pub added_kept : (W : Work) (r after : HeldRound) (c : CutRow) → IsKeptRound W r → IsCutOf W.model c → IsAddable W (round_of r) c
    → after.cuts ≡ r.cuts ++ c ∷ [] → after.places.items ≡ r.places.items ++ (length W.pool + length r.added.items) ∷ [] → after.added.items ≡ r.added.items ++ c.from ∷ [] → IsKeptRound W after
added_kept W r after c kept is may cuts places added =
    let e = length_push r.cuts c in
    let f = length_push r.places.items (length W.pool + length r.added.items) in
    let g = length_push r.added.items c.from in
    let count : length after.cuts ≡ length (r.cuts ++ c ∷ []) = ap length cuts in
    let named : length after.places.items ≡ length (r.places.items ++ (length W.pool + length r.added.items) ∷ []) = ap length places in
    let more : length after.added.items ≡ length (r.added.items ++ c.from ∷ []) = ap length added in
    let before : length r.places.items ≡ length r.cuts = kept.each in
    let room : length r.cuts < 200 = may.room in
    let pool_room : length W.pool + length r.added.items < 10000 = may.pool_room in
    record {
      are = subst (IsPoolOf W.model) (sym cuts) (All-push (IsCutOf W.model) r.cuts c kept.are is);
      live = subst AreAllLive (sym cuts) (All-push (λ (d : CutRow). IsTrue d.live) r.cuts c kept.live may.live);
      few = omega (arith, count, e, room);
      each = omega (arith, count, named, e, f, before);
      there = subst ArePoolPlaces (sym places) (All-push (λ (p : ℕ). p < 10000) r.places.items (length W.pool + length r.added.items) kept.there pool_room);
      room = omega (arith, more, g, pool_room);
    }

-- each cut of a round has a place of 32 bits
pub kept_places : (W : Work) (r : HeldRound) → IsKeptRound W r → HavePlaces r.cuts
kept_places W r kept = let few : length r.cuts ≤ 200 = kept.few in omega (arith, few)

-- one derivation more
pub adds-more : (W : Work) (ds : List Derivation) (d : Derivation) (a b c : Round) → AddsAll W a ds b → AddsOne W b d c → AddsAll W a (ds ++ d ∷ []) c
adds-more W [] d a b c e one = (c, (subst (λ r. AddsOne W r d c) e one, refl))
adds-more W (x ∷ ds) d a b c (mid, (first, rest)) one = (mid, (first, adds-more W ds d mid b c rest one))

-- ---- where no cut is new nothing has changed

one-grows : (W : Work) (d : Derivation) (a b : Round) → AddsOne W a d b → (b ≡ a) ⊎ (length a.cuts < length b.cuts)
one-grows W d a b (c, (from, (is, inl (may, e)))) =
    let count : length b.cuts ≡ length (a.cuts ++ c ∷ []) = ap (λ (r : Round). length r.cuts) e in
    let more = length_push a.cuts c in
    inr (omega (arith, count, more))
one-grows W d a b (c, (from, (is, inr (not, e)))) = inl e

all-grow : (W : Work) (ds : List Derivation) (a b : Round) → AddsAll W a ds b → (b ≡ a) ⊎ (length a.cuts < length b.cuts)
all-grow W [] a b e = inl e
all-grow W (d ∷ ds) a b (mid, (first, rest)) = by (one-grows W d a mid first) (all-grow W ds mid b rest)
  where
    by : (mid ≡ a) ⊎ (length a.cuts < length mid.cuts) → (b ≡ mid) ⊎ (length mid.cuts < length b.cuts) → (b ≡ a) ⊎ (length a.cuts < length b.cuts)
    by (inl e) (inl f) = inl (f ∙ e)
    by (inl e) (inr less) = let same : length mid.cuts ≡ length a.cuts = ap (λ (r : Round). length r.cuts) e in inr (omega (arith, same, less))
    by (inr less) (inl f) = let same : length b.cuts ≡ length mid.cuts = ap (λ (r : Round). length r.cuts) f in inr (omega (arith, same, less))
    by (inr less) (inr more) = inr (omega (arith, less, more))

pub none-new : (W : Work) (r after : Round) (x : Point) → AddsCovers W r x after → length after.cuts - length r.cuts ≡ 0 → (after ≡ r) × AddsCovers W r x r
none-new W r after x h none = by (all-grow W h.0 r after h.1.1)
  where
    by : (after ≡ r) ⊎ (length r.cuts < length after.cuts) → (after ≡ r) × AddsCovers W r x r
    by (inl e) = (e, subst (AddsCovers W r x) e h)
    by (inr less) = absurd (omega (arith, less, none))

pub never-fewer : (W : Work) (r after : Round) (x : Point) → AddsCovers W r x after → length r.cuts ≤ length after.cuts
never-fewer W r after x h = by (all-grow W h.0 r after h.1.1)
  where
    by : (after ≡ r) ⊎ (length r.cuts < length after.cuts) → length r.cuts ≤ length after.cuts
    by (inl e) = let same : length after.cuts ≡ length r.cuts = ap (λ (q : Round). length q.cuts) e in omega (arith, same)
    by (inr less) = omega (arith, less)

-- where one is new the next round follows
pub goes-on : (W : Work) (made : ℕ) (r after : Round) (x : Point) (basis list : Basis) (before count : ℕ) → MayGoOn W made r x → AddsCovers W r x after → before ≡ length r.cuts → count ≡ length after.cuts - length r.cuts → count ≢ 0
    → list ≡ with_cut_variables basis before count → IsNextAnswer W made r x basis true (record after { list = list })
goes-on W made r after x basis list before count may separates before_is count_is some list_is =
    let more : length r.cuts < length after.cuts = omega (arith, count_is, some) in
    let same : list ≡ with_cut_variables basis (length r.cuts) (length after.cuts - length r.cuts) = list_is ∙ (λ i. with_cut_variables basis (before_is i) (count_is i)) in
    (may, (after, (separates, (more, ap (λ (l : Basis). record after { list = l }) same))))
