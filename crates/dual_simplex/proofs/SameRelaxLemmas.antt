-- What is said of a relaxation is said of each that has its model and cuts, its region and its kind.
use Rattle.std.specs.Prelude.{◌≡◌, length}
use Rattle.std.proofs.Common.{sym, ap, subst, ◌∙◌, inl, inr, ⊎_elim}
use Rattle.lp_model.specs.Formulations.{Formulation}
use Rattle.lp_model.specs.declared.types.Basis.{Basis}
use Rattle.lp_model.specs.declared.types.WideStep.{WideStep}
use Rattle.table_entries.specs.Bases.{IsNonsingular}
use Rattle.row_tableau.specs.declared.relax.Relax.{Relax}
use Rattle.row_tableau.specs.Relaxations.{form_of, plain, of_kind, relaxation_of}
use Rattle.row_tableau.specs.Dense.{IsTableauOf}
use Rattle.row_tableau.specs.Variables.{numbers}
use Rattle.row_tableau.specs.Tilts.{tilt_of, order_of}
use Rattle.basic_solution.specs.Held.{Held}
use Rattle.basic_solution.specs.Slack.{IsStateOfRelax, IsSlackState}
use Rattle.basic_solution.specs.ListedStates.{IsLawfulBasis}
use Rattle.dual_simplex.specs.Starts.{IsReached, IsLeftBehind, IsStarted, IsWideStart}

-- two relaxations say the same
pub record AreSame (r t : Relax) : Type 0 where
  pub form : form_of r ≡ form_of t
  pub region : r.region.now ≡ t.region.now
  pub kind : r.kind ≡ t.kind

pub turned_round : (r t : Relax) → AreSame r t → AreSame t r
turned_round r t same = record { form = sym same.form; region = sym same.region; kind = sym same.kind }

module _ (r t : Relax) (same : AreSame r t) where
  relaxation_is : relaxation_of r ≡ relaxation_of t
  relaxation_is = λ i. of_kind (same.kind i) (plain (same.form i) (same.region i))

  pub of_other : (s : Held) → IsStateOfRelax r s → IsStateOfRelax t s
  of_other s is = record {
    form = is.form ∙ same.form;
    tableau = subst (λ p. IsTableauOf p s.tableau) relaxation_is is.tableau;
    rows = is.rows ∙ ap (λ (G : Formulation). length G.model.rows) same.form;
    low = λ v w. is.low v w ∙ ap (λ p. p.low v) relaxation_is;
    high = λ v w. is.high v w ∙ ap (λ p. p.high v) relaxation_is;
    cost = λ v w. is.cost v w ∙ ap (λ p. p.cost v) relaxation_is;
    tilt = λ v w. is.tilt v w ∙ (λ i. tilt_of (same.kind i) (same.form i) v);
    order = is.order ∙ (λ i. order_of (same.kind i) (same.form i));
  }

  pub slack_other : (s : Held) → IsSlackState r s → IsSlackState t s
  slack_other s at = record { is = of_other s at.is; slack = at.slack }

  reached_other : (s : Held) → IsReached r s → IsReached t s
  reached_other s at = record { is = of_other s at.is; sided = at.sided; full = at.full }

module _ (r t : Relax) (same : AreSame r t) where
  lawful_other : (list : Basis) → IsLawfulBasis r list → IsLawfulBasis t list
  lawful_other list lawful = record {
    basis = λ s is. subst (λ p. IsNonsingular p (numbers s.tableau list.basic)) (relaxation_is r t same) (lawful.basis s (of_other t r (turned_round r t same) s is));
    lawful = λ s sided is at. lawful.lawful s sided (of_other t r (turned_round r t same) s is) at;
  }

-- ---- starts

module _ (r t : Relax) (same : AreSame r t) (list first : Basis) where
  behind_other : (slack mid : Held) → IsLeftBehind r list slack mid → IsLeftBehind t list slack mid
  behind_other slack mid h = record { unlawful = λ lawful. h.unlawful (lawful_other t r (turned_round r t same) list lawful); reached = reached_other r t same mid h.reached; way = h.way; left = h.left }

  pub started_other : (s : Held) → IsStarted r list first s → IsStarted t list first s
  started_other s a = record {
    slack = a.slack;
    slack_is = slack_other r t same a.slack a.slack_is;
    reached = reached_other r t same s a.reached;
    at = ⊎_elim inl (λ h. inr (h.0, (behind_other a.slack h.0 h.1.0, h.1.1))) a.at;
  }

  pub wide_start_other : (step : WideStep) (basis : Basis) → IsWideStart r list first step basis → IsWideStart t list first step basis
  wide_start_other step basis a = record {
    slack = a.slack;
    slack_is = slack_other r t same a.slack a.slack_is;
    state = a.state;
    reached = reached_other r t same a.state a.reached;
    basis_is = a.basis_is;
    at = ⊎_elim inl (λ h. inr (h.0, (behind_other a.slack h.0 h.1.0, h.1.1))) a.at;
  }
