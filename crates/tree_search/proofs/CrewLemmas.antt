-- The jobs that workers hold, and the ids that their manager keeps of them.
use Rattle.std.specs.Prelude.{◌≡◌, ℕ, zero, suc, ◌+◌, ◌*◌, ◌<◌, ◌≤◌, Bool, true, false, if◌then◌else◌, List, [], ◌∷◌, length, get_or, set, replicate, Option, Some, None}
use Rattle.std.specs.Option.{option_map}
use Rattle.std.proofs.Common.{refl, sym, ap, ◌∙◌, inl, inr, arith}
use Rattle.std.proofs.Math.Nat.{mul-le-mul_left, mul-suc}
use Rattle.std.proofs.lemmas.Bool.{cases_lt}
use Rattle.lp_model.specs.Regions.{Path}
use Rattle.branch_tree.specs.Tree.{Leaf, Split, left_path, right_path, EachLeaf}
use Rattle.branch_tree.specs.Plain.{Plain, LeafKept}
use Rattle.leaf_judging.specs.Queued.{SomeLeaf}
use Rattle.branch_tree.specs.declared.node.Job.{Job}
use Rattle.branch_tree.specs.declared.node.LeafState.TheVariants.{IsOpen, IsClosed}
use Rattle.leaf_judging.specs.Free.{is_held}
use Rattle.sound_searches.specs.Sound.{PlainSearch}
use Rattle.sound_searches.specs.Free.{IsNotFree, IsNextFree}
use Rattle.sound_searches.specs.Laws.{HasNoOpenLeaf}
use Rattle.sound_searches.proofs.SoundLemmas.{each-weaker}
use Rattle.tree_manager.specs.Managers.{PlainManager, has_open, kept_holding, held_on}
use Rattle.turn_order.specs.Turns.{can_act, able_from, able, SomeCanAct}
use Rattle.tree_search.specs.Turns.{Crew, id_of, held_of, kept_job, jobs_on, HandsOut, IsFreeAnswer}

-- ---- ids

module _ (S : PlainSearch) where
  one-kept : (job : Option Job) → option_map id_of (kept_job S job) ≡ kept_holding S (option_map id_of job)
  one-kept None = refl
  one-kept (Some job) = by (has_open S job.id)
    where
      by : (b : Bool) → option_map id_of (option_map (λ (id : ℕ). job) (if b then Some job.id else None)) ≡ (if b then Some job.id else None)
      by true = refl
      by false = refl

  -- who is left holding
  pub held-kept : (jobs : List (Option Job)) → held_of (jobs_on S jobs) ≡ held_on S (held_of jobs)
  held-kept [] = refl
  held-kept (job ∷ jobs) = λ i. one-kept job i ∷ held-kept jobs i

pub held-set : (jobs : List (Option Job)) (w : ℕ) (job : Option Job) → held_of (set jobs w job) ≡ set (held_of jobs) w (option_map id_of job)
held-set [] w job = refl
held-set (j ∷ jobs) zero job = refl
held-set (j ∷ jobs) (suc w) job = λ i. option_map id_of j ∷ held-set jobs w job i

pub held-none : (n : ℕ) → held_of (replicate n None) ≡ replicate n None
held-none zero = refl
held-none (suc n) = λ i. None ∷ held-none n i

pub held-at : (jobs : List (Option Job)) (w : ℕ) → get_or (held_of jobs) w None ≡ option_map id_of (get_or jobs w None)
held-at [] w = refl
held-at (j ∷ jobs) zero = refl
held-at (j ∷ jobs) (suc w) = held-at jobs w

pub no-some : {A : Type 0} (a : A) → ¬ (None ≡ Some a)
no-some a e = cc

-- a worker whose place has no id holds no job
pub idle-job : (jobs : List (Option Job)) (w : ℕ) → get_or (held_of jobs) w None ≡ None → get_or jobs w None ≡ None
idle-job jobs w none = by (get_or jobs w None) (sym (held-at jobs w) ∙ none)
  where
    by : (j : Option Job) → option_map id_of j ≡ None → j ≡ None
    by None e = refl
    by (Some job) e = absurd (no-some job.id (sym e))

-- a hand-out leaves the search
pub hands-same : (a b : Crew) → HandsOut a b → b.search ≡ a.search
hands-same a b h = ap (λ (Q : PlainManager). Q.search) h.gives.new_is

-- ---- who can act

none-able : (n : ℕ) (held : List (Option ℕ)) → able_from n false held ≡ [] → (id : ℕ) → is_held held id ≡ false
none-able n [] e id = refl
none-able n (None ∷ held) e id = none-able (suc n) held e id
none-able n (Some k ∷ held) e id = absurd cc

empty-able : (n : ℕ) (held : List (Option ℕ)) → 0 < length held → ¬ (able_from n true held ≡ [])
empty-able n [] some e = omega arith
empty-able n (None ∷ held) some e = cc
empty-able n (Some k ∷ held) some e = cc

nil-from : {A : Type 0} (xs : List A) → length xs ≤ 0 → xs ≡ []
nil-from [] h = refl
nil-from (x ∷ xs) h = absurd (omega arith)

all-closed : (S : PlainSearch) (held : List (Option ℕ)) → ((id : ℕ) → is_held held id ≡ false) → IsNextFree S held None → HasNoOpenLeaf S
all-closed S held none next =
    each-weaker (λ p l. IsNotFree held l) (λ p (l : LeafKept). l.kept.state ≡ IsClosed)
    (λ p l h. elim h [ inl closed ↦ closed | inr taken ↦ let f : true ≡ false = sym taken ∙ none l.id in absurd cc ])
    [] S.tree.root next

-- while a leaf is open some worker can act
pub some-acts : (S : PlainSearch) (held : List (Option ℕ)) (free : Bool) → 0 < length held → ¬ HasNoOpenLeaf S → IsFreeAnswer S held free → SomeCanAct free held
some-acts S held true some left h = elim (cases_lt 0 (length (able true held))) [
  | inl there ↦ there
  | inr past ↦ absurd (empty-able 0 held some (nil-from (able true held) past))
]
some-acts S held false some left h = elim (cases_lt 0 (length (able false held))) [
  | inl there ↦ there
  | inr past ↦ absurd (left (all-closed S held (none-able 0 held (nil-from (able false held) past)) h))
]

some-both : (P Q : Path → LeafKept → Type 0) (path : Path) (t : Plain) → SomeLeaf P path t → EachLeaf Q path t → (p : Path) × ((l : LeafKept) × (P p l × Q p l))
some-both P Q path (Leaf l) h k = (path, (l, (h, k)))
some-both P Q path (Split kept j v left right) (inl h) k = some-both P Q (left_path path j v) left h k.0
some-both P Q path (Split kept j v left right) (inr h) k = some-both P Q (right_path path j v) right h k.1

open-closed : ¬ (IsOpen ≡ IsClosed)
open-closed e = cc

-- where a leaf is free, not each open one is held
pub free-clash : (S : PlainSearch) (held : List (Option ℕ)) (id : ℕ) → IsNextFree S held None → IsNextFree S held (Some id) → ⊥
free-clash S held id none (c, (first, same)) =
    let (p, (l, (candidate, taken))) = some-both _ (λ p l. IsNotFree held l) [] S.tree.root first.is_open none in
    elim taken [
      | inl closed ↦ open-closed (sym candidate.state ∙ closed)
      | inr there ↦ let f : true ≡ false = sym there ∙ sym (ap (is_held held) candidate.id) ∙ first.free in absurd cc
    ]

-- an idle worker that can act does so since a leaf is free
pub free-for_idle : (S : PlainSearch) (held : List (Option ℕ)) (free : Bool) (h : Option ℕ) → h ≡ None → can_act free h ≡ true → IsFreeAnswer S held free → (id : ℕ) × IsNextFree S held (Some id)
free-for_idle S held true h idle acts is = is
free-for_idle S held false h idle acts is = let f : false ≡ true = ap (can_act false) (sym idle) ∙ acts in absurd cc

-- ---- how many are idle

abbrev pub none_in : Option Job → ℕ
none_in None = 1
none_in (Some job) = 0

abbrev pub idle_count : List (Option Job) → ℕ
idle_count [] = 0
idle_count (j ∷ jobs) = none_in j + idle_count jobs

idle-one : (j : Option Job) → none_in j ≤ 1
idle-one None = omega arith
idle-one (Some job) = omega arith

pub idle-most : (jobs : List (Option Job)) → idle_count jobs ≤ length jobs
idle-most [] = omega arith
idle-most (j ∷ jobs) = let one = idle-one j in let h = idle-most jobs in omega (arith, one, h)

pub idle-fewer : (jobs : List (Option Job)) (w : ℕ) (job : Job) → w < length jobs → get_or jobs w None ≡ None → idle_count (set jobs w (Some job)) + 1 ≡ idle_count jobs
idle-fewer [] w job below idle = absurd (omega arith)
idle-fewer (j ∷ jobs) zero job below idle = let e : none_in j ≡ 1 = ap none_in idle in omega (arith, e)
idle-fewer (j ∷ jobs) (suc w) job below idle = let h = idle-fewer jobs w job (omega arith) idle in omega (arith, h)

-- ---- a measure that each turn lowers

-- fewer are idle
pub fewer-idle : (k w c c' : ℕ) → c' + 1 ≡ c → k * w + c' < k * w + c
fewer-idle k w c c' h = omega (arith, h)

-- there is less left to place
pub less-work : (k w w' c c' : ℕ) → w' + 1 ≤ w → c' ≤ k → (k + 1) * w' + c' < (k + 1) * w + c
less-work k w w' c c' less few =
    let same : suc w' ≡ w' + 1 = omega arith in
    let m : (k + 1) * (w' + 1) ≤ (k + 1) * w = mul-le-mul_left (k + 1) less in
    let n : (k + 1) * (w' + 1) ≡ (k + 1) * w' + (k + 1) = ap (λ z. (k + 1) * z) (sym same) ∙ mul-suc (k + 1) w' in
    omega (arith, m, n, few)
