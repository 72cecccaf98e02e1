-- The cuts that rounds add stand behind those of the pool that count, and a pool with them has them there.
use Rattle.std.specs.Prelude.{◌≡◌, ◌↔◌, ℕ, zero, suc, ◌+◌, ◌<◌, ◌≤◌, Bool, true, false, IsTrue, List, [], ◌∷◌, ◌++◌, length, map, drop, All}
use Rattle.std.proofs.Common.{refl, sym, ap, subst, ◌∙◌, inl, inr, arith, append_assoc, append-nil, length-append}
use Rattle.std.proofs.lemmas.Bool.{false≢true}
use Rattle.std.proofs.lemmas.List.{length-map, length_push, map_push, drop-append-le, drop_all}
use Rattle.std.proofs.lemmas.List.Elements.{All-nil, All-cons, All-push, All-tail}
use Rattle.lp_model.specs.Program.{Program}
use Rattle.lp_model.specs.Regions.{Path}
use Rattle.lp_model.specs.declared.types.CutRow.{CutRow}
use Rattle.lp_model.specs.declared.types.Derivation.{Derivation}
use Rattle.cover_cuts.specs.Cuts.{IsCutOf, cover_terms, cover_high}
use Rattle.cover_cuts.specs.Answers.{DerivesWithRoom}
use Rattle.branch_tree.specs.declared.node.LeafData.{LeafData}
use Rattle.leaf_judging.specs.Closing.{IsSetAside}
use Rattle.search_parts.specs.Lists.{HasLists}
use Rattle.sound_searches.specs.Sound.{PlainSearch, formulation_of}
use Rattle.sound_searches.specs.Pool.{search_with_cut, AddsCuts}
use Rattle.sound_searches.proofs.FurtherCut.{mult-more, basis-more, aside-less}
use Rattle.node_solve.specs.Laws.{AreAllLive, LastCutsLaw}
use Rattle.node_solve.specs.Places.{live_cuts, live_places}
use Rattle.node_solve.specs.private.Places.{places_from}
use Rattle.node_solve.specs.Rounds.{Work, Round, first_round, round_with, AddsOne, AddsAll, MakesRound, MakesRounds, new_cuts}
use Rattle.node_solve.proofs.LiveLemmas.{live-few, places-push, live-more, places-more}

-- ---- the cuts of a round

pub record HasAdded (W : Work) (r : Round) : Type 0 where
  pub new : List CutRow
  pub cuts : r.cuts ≡ live_cuts 200 W.pool ++ new
  pub places : r.places ≡ live_places 200 0 W.pool ++ places_from (length W.pool) (length new)
  pub added : r.added ≡ map (λ c. c.from) new
  pub are : All (IsCutOf W.model) new
  pub live : AreAllLive new
  pub few : length r.cuts ≤ 200

module _ (W : Work) where
  abbrev L : List CutRow
  L = live_cuts 200 W.pool

  abbrev P : List ℕ
  P = live_places 200 0 W.pool

  first-added : HasAdded W (first_round W)
  first-added = record {
    new = [];
    cuts = sym (append-nil L);
    places = sym (append-nil P);
    added = refl;
    are = All-nil (IsCutOf W.model);
    live = All-nil (λ (c : CutRow). IsTrue c.live);
    few = live-few 200 W.pool;
  }

  with-added : (r : Round) (c : CutRow) → IsCutOf W.model c → IsTrue c.live → length r.cuts < 200 → HasAdded W r → HasAdded W (round_with W r c)
  with-added r c is on room h =
      let count : length r.added ≡ length h.new = ap length h.added ∙ length-map h.new (λ d. d.from) in
      let more : suc (length h.new) ≡ length (h.new ++ c ∷ []) = let e = length_push h.new c in omega (arith, e) in
      record {
        new = h.new ++ c ∷ [];
        cuts = ap (λ l. l ++ c ∷ []) h.cuts ∙ append_assoc L h.new (c ∷ []);
        places =
            ap (λ l. l ++ (length W.pool + length r.added) ∷ []) h.places
            ∙ append_assoc P (places_from (length W.pool) (length h.new)) ((length W.pool + length r.added) ∷ [])
            ∙ ap (λ n. P ++ (places_from (length W.pool) (length h.new) ++ (length W.pool + n) ∷ [])) count
            ∙ ap (λ l. P ++ l) (places-push (length W.pool) (length h.new))
            ∙ ap (λ n. P ++ places_from (length W.pool) n) more;
        added = ap (λ l. l ++ c.from ∷ []) h.added ∙ sym (map_push (λ d. d.from) h.new c);
        are = All-push (IsCutOf W.model) h.new c h.are is;
        live = All-push (λ (d : CutRow). IsTrue d.live) h.new c h.live on;
        few = let e = length_push r.cuts c in omega (arith, e, room);
      }

  one-added : (r : Round) (d : Derivation) (after : Round) → AddsOne W r d after → HasAdded W r → HasAdded W after
  one-added r d after (c, (from, (is, inl (may, e)))) h = subst (HasAdded W) (sym e) (with-added r c is may.live may.room h)
  one-added r d after (c, (from, (is, inr (not, e)))) h = subst (HasAdded W) (sym e) h

  all-added : (ds : List Derivation) (r after : Round) → AddsAll W r ds after → HasAdded W r → HasAdded W after
  all-added [] r after e h = subst (HasAdded W) (sym e) h
  all-added (d ∷ ds) r after (mid, (one, rest)) h = all-added ds mid after rest (one-added r d mid one h)

  round-added : (made : ℕ) (r next : Round) → MakesRound W made r next → HasAdded W r → HasAdded W next
  round-added made r next m h =
      let own : HasAdded W m.after = all-added m.separates.0 r m.after m.separates.1.1 h in
      subst (HasAdded W) (sym m.next_is) (record { new = own.new; cuts = own.cuts; places = own.places; added = own.added; are = own.are; live = own.live; few = own.few })

  pub rounds-added : (made : ℕ) (r : Round) → MakesRounds W made r → HasAdded W r
  rounds-added zero r e = subst (HasAdded W) (sym e) first-added
  rounds-added (suc n) r (before, (makes, m)) = round-added n before r m (rounds-added n before makes)

  -- ---- the pool with those that were added

  module _ (r : Round) (h : HasAdded W r) where
    pub new-cuts : new_cuts W r ≡ h.new
    new-cuts =
        ap (drop (length L)) h.cuts ∙ drop-append-le (length L) L h.new (omega arith)
        ∙ ap (λ l. l ++ h.new) (drop_all (length L) L (omega arith))

    few-new : length L + length h.new ≤ 200
    few-new = let few : length r.cuts ≤ 200 = h.few in let e : length r.cuts ≡ length (L ++ h.new) = ap length h.cuts in let n = length-append L h.new in omega (arith, few, e, n)

    pub cuts-live : (pool : List CutRow) → pool ≡ W.pool ++ h.new → r.cuts ≡ live_cuts 200 pool
    cuts-live pool e = h.cuts ∙ sym (live-more 200 W.pool h.new h.live few-new) ∙ ap (live_cuts 200) (sym e)

    pub places-live : (pool : List CutRow) → pool ≡ W.pool ++ h.new → r.places ≡ live_places 200 0 pool
    places-live pool e = h.places ∙ sym (places-more 200 W.pool h.new h.live few-new) ∙ ap (live_places 200 0) (sym e)

pub last_cuts : LastCutsLaw
last_cuts W is made r makes new e =
    let h = rounds-added W made r makes in
    let pool : new ≡ W.pool ++ h.new = e ∙ ap (λ l. W.pool ++ l) (new-cuts W r h) in
    (cuts-live W r h new pool, places-live W r h new pool)

-- ---- cuts are told by their derivations

bool-same : (P : Type 0) (a b : Bool) → IsTrue a ↔ P → IsTrue b ↔ P → a ≡ b
bool-same P true true h k = refl
bool-same P true false h k = absurd (false≢true (k.1 (h.0 refl)))
bool-same P false true h k = absurd (false≢true (h.1 (k.0 refl)))
bool-same P false false h k = refl

pub cut-same : (M : Program) (a b : CutRow) → IsCutOf M a → IsCutOf M b → a.from ≡ b.from → a ≡ b
cut-same M a b own other e =
    let terms : a.terms ≡ b.terms = own.row.terms ∙ ap (λ (d : Derivation). cover_terms d.literals) e ∙ sym other.row.terms in
    let high : a.hi ≡ b.hi = own.row.high ∙ ap (λ (d : Derivation). cover_high d.literals) e ∙ sym other.row.high in
    let live : a.live ≡ b.live = bool-same (DerivesWithRoom M b.from) a.live b.live (subst (λ d. IsTrue a.live ↔ DerivesWithRoom M d) e own.live) other.live in
    (λ i. record { terms = terms i; hi = high i; from = e i; live = live i })

head-same : {A : Type 0} (x y : A) (xs ys : List A) → x ∷ xs ≡ y ∷ ys → x ≡ y
head-same x y xs ys e = cc

tail-same : {A : Type 0} (x y : A) (xs ys : List A) → x ∷ xs ≡ y ∷ ys → xs ≡ ys
tail-same x y xs ys e = cc

pub cuts-same : (M : Program) (us vs : List CutRow) → All (IsCutOf M) us → All (IsCutOf M) vs → map (λ c. c.from) us ≡ map (λ c. c.from) vs → us ≡ vs
cuts-same M [] [] own other e = refl
cuts-same M [] (b ∷ vs) own other e = let n = ap length e in absurd (omega (arith, n))
cuts-same M (a ∷ us) [] own other e = let n = ap length e in absurd (omega (arith, n))
cuts-same M (a ∷ us) (b ∷ vs) own other e =
    let first : a ≡ b = cut-same M a b (own 0 a (omega arith)) (other 0 b (omega arith)) (head-same a.from b.from (map (λ c. c.from) us) (map (λ c. c.from) vs) e) in
    let rest : us ≡ vs = cuts-same M us vs (All-tail (IsCutOf M) a us own) (All-tail (IsCutOf M) b vs other) (tail-same a.from b.from (map (λ c. c.from) us) (map (λ c. c.from) vs) e) in
    (λ i. first i ∷ rest i)

-- ---- a search with more cuts

pub record HasMoreCuts (S : PlainSearch) (ds : List Derivation) (T : PlainSearch) : Type 0 where
  pub new : List CutRow
  pub from : map (λ c. c.from) new ≡ ds
  pub are : All (IsCutOf S.model) new
  pub now : T ≡ record S { cuts = S.cuts ++ new }

pub more-cuts : (ds : List Derivation) (S T : PlainSearch) → AddsCuts S ds T → HasMoreCuts S ds T
more-cuts [] S T e = record { new = []; from = refl; are = All-nil (IsCutOf S.model); now = e ∙ ap (λ l. record S { cuts = l }) (sym (append-nil S.cuts)) }
more-cuts (d ∷ ds) S T (mid, (add, rest)) = by (more-cuts ds mid T rest)
  where
    by : HasMoreCuts mid ds T → HasMoreCuts S (d ∷ ds) T
    by h =
        let model : mid.model ≡ S.model = ap (λ (X : PlainSearch). X.model) add.new_is in
        record {
          new = add.cut ∷ h.new;
          from = (λ i. add.from i ∷ h.from i);
          are = All-cons (IsCutOf S.model) add.cut h.new add.is (subst (λ M. All (IsCutOf M) h.new) model h.are);
          now = h.now ∙ ap (λ (X : PlainSearch). record X { cuts = X.cuts ++ h.new }) add.new_is ∙ ap (λ l. record S { cuts = l }) (append_assoc S.cuts (add.cut ∷ []) h.new);
        }

-- the lists of a leaf name what is there, and a leaf that is not set aside is not so with more cuts
abbrev IsBeside : PlainSearch → Path → LeafData → Type 0
IsBeside S path kept = HasLists (formulation_of S) kept × (¬ IsSetAside (formulation_of S) path kept.farkas)

with-cut : (S : PlainSearch) (c : CutRow) (path : Path) (kept : LeafData) → IsBeside S path kept → IsBeside (search_with_cut S c) path kept
with-cut S c path kept (lists, not) = (
  record { mult = mult-more (formulation_of S) c kept.mult lists.mult; farkas = mult-more (formulation_of S) c kept.farkas lists.farkas; basis = basis-more (formulation_of S) c kept.basis lists.basis },
  (λ aside. not (aside-less (formulation_of S) c path kept.farkas lists.farkas aside)),
)

pub with-cuts : (ds : List Derivation) (S T : PlainSearch) → AddsCuts S ds T → (path : Path) (kept : LeafData) → HasLists (formulation_of S) kept → ¬ IsSetAside (formulation_of S) path kept.farkas
    → HasLists (formulation_of T) kept × (¬ IsSetAside (formulation_of T) path kept.farkas)
with-cuts [] S T e path kept lists not = subst (λ X. IsBeside X path kept) (sym e) (lists, not)
with-cuts (d ∷ ds) S T (mid, (add, rest)) path kept lists not =
    let one : IsBeside mid path kept = subst (λ X. IsBeside X path kept) (sym add.new_is) (with-cut S add.cut path kept (lists, not)) in
    with-cuts ds mid T rest path kept one.0 one.1
