-- Managers after any events: each event leaves leaves held as they are to be.
use Rattle.std.specs.Prelude.{◌≡◌, ℕ, true, false, List, [], ◌∷◌, length, set, Option, Some, None}
use Rattle.std.proofs.Common.{sym, subst, ap, ◌∙◌, inl, inr}
use Rattle.std.proofs.lemmas.Bool.{cases_lt}
use Rattle.std.proofs.lemmas.List.{set_past}
use Rattle.branch_tree.specs.declared.node.Job.{Job}
use Rattle.leaf_judging.specs.Free.{is_held}
use Rattle.sound_searches.specs.Sound.{PlainSearch}
use Rattle.sound_searches.specs.Jobs.{IsJobOf}
use Rattle.tree_manager.specs.Managers.{PlainManager, is_open_state, is_open_data, has_open, AreHeld, IsManager, with_holding, held_on}
use Rattle.tree_manager.specs.Events.{Event, Give, Take, Lose, EditBy, Trim, AddCut, Does, Gives, Happens, IsHistory}
use Rattle.tree_manager.proofs.HeldLemmas.{lost-held, given-held, on-held}
use Rattle.tree_manager.proofs.FreeLemmas.{free-not_held}

-- the leaf of a job is open
pub job-open : (S : PlainSearch) (id : ℕ) (job : Job) → IsJobOf S id job → has_open S id ≡ true
job-open S id job h = ap is_open_data h.leaf.data_is ∙ ap is_open_state h.state

lost-any : (S : PlainSearch) (held : List (Option ℕ)) (w : ℕ) → AreHeld S held → AreHeld S (set held w None)
lost-any S held w h = elim (cases_lt w (length held)) [
  | inl within ↦ lost-held held w within S h
  | inr past ↦ subst (AreHeld S) (sym (set_past held w None past)) h
]

given-any : (S : PlainSearch) (held : List (Option ℕ)) (w id : ℕ) → AreHeld S held → has_open S id ≡ true → is_held held id ≡ false → AreHeld S (set held w (Some id))
given-any S held w id h is_open free = elim (cases_lt w (length held)) [
  | inl within ↦ given-held held w id within S h is_open free
  | inr past ↦ subst (AreHeld S) (sym (set_past held w (Some id) past)) h
]

on-again : (S T : PlainSearch) (held : List (Option ℕ)) → AreHeld T held → AreHeld S (held_on S held)
on-again S T held h = on-held S held h.some h.one

is-as : (P Q : PlainManager) → Q ≡ P → AreHeld P.search P.held → AreHeld Q.search Q.held
is-as P Q same h = subst (λ (R : PlainManager). AreHeld R.search R.held) (sym same) h

module _ (P Q : PlainManager) (h : AreHeld P.search P.held) where
  gives-held : (w : ℕ) (answer : Option Job) → Gives P w answer Q → AreHeld Q.search Q.held
  gives-held w None is = is-as P Q is.0 h
  gives-held w (Some job) is =
      is-as (with_holding P w (Some job.id)) Q is.new_is
      (given-any P.search P.held w job.id h (job-open P.search job.id job is.job_is) (free-not_held P.search P.held job.id is.next))

  does-held : (e : Event) → Does P e Q → AreHeld Q.search Q.held
  does-held (Give w answer) is = gives-held w answer is
  does-held (Take w id done taken) is = subst (AreHeld Q.search) (sym is.held_is) (on-again Q.search P.search (set P.held w None) (lost-any P.search P.held w h))
  does-held (Lose w) is = is-as (with_holding P w None) Q is (lost-any P.search P.held w h)
  does-held (EditBy e) is = subst (AreHeld Q.search) (sym is.1.held_is) (on-again Q.search P.search P.held h)
  does-held (Trim depth) is = subst (AreHeld Q.search) (sym is.1.held_is) (on-again Q.search P.search P.held h)
  does-held (AddCut d) is =
      subst (AreHeld Q.search) (sym is.1)
      (record { some = h.some; are_open = λ w id k. ap (λ (S : PlainSearch). has_open S id) is.0.new_is ∙ h.are_open w id k; one = h.one })

pub happens-manager : (P Q : PlainManager) (e : Event) → IsManager P → Happens P e Q → IsManager Q
happens-manager P Q e m is = record { sound = is.sound; numbered = is.numbered; held = does-held P Q m.held e is.does }

pub any-events : (P Q : PlainManager) (es : List Event) → IsManager P → IsHistory P es Q → IsManager Q
any-events P Q [] m same = subst IsManager (sym same) m
any-events P Q (e ∷ es) m (R, (first, rest)) = any-events R Q es (happens-manager P R e m first) rest
