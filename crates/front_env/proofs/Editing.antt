-- What an edit leaves.
use Rattle.std.proofs.Common.{◌≡◌, refl, sym, ap, subst, ◌∙◌}
use Rattle.std.specs.Prelude.{Option, Some, None, Ok, Err, IsSome}
use Rattle.lp_model.specs.Program.{Program}
use Rattle.lp_model.specs.Edits.{edited, EditFits}
use Rattle.lp_model.specs.declared.types.Edit.{Edit}
use Rattle.model_edits.specs.Faults.{IsEditFault}
use Rattle.model_edits.specs.declared.faults.EditFault.{EditFault}
use Rattle.sound_searches.specs.Sound.{PlainSearch}
use Rattle.kept_env.specs.Env.{PlainEnv, Holds}
use Rattle.kept_env.specs.Editing.{EditsEnv}
use Rattle.kept_env.specs.declared.env.EnvFault.{EnvFault}
use Rattle.kept_env.specs.declared.env.EnvFault.TheVariants as fault
use Rattle.front_env.specs.FrontEnvs.{program_in}

pub record IsEditedTo (P : Program) (e : Edit) (new : PlainEnv) : Type 0 where
  pub loaded : IsSome new.search
  pub program : program_in new.search ≡ edited P e
  pub fits : EditFits P e

pub edited_to : (search : Option PlainSearch) (e : Edit) (old new : PlainEnv) (done : Unit {0}) → IsSome search → EditsEnv search e old (Ok done) new → IsEditedTo (program_in search) e new
edited_to None e old new done some edits = absurd cc
edited_to (Some S) e old new done some edits =
    subst (IsEditedTo S.model e) (sym edits.env_is) (record { loaded = refl; program = edits.follows.model; fits = edits.fits })

-- the edit is refused, and all stays
pub record IsRefusedAt (P : Program) (e : Edit) (old : PlainEnv) (f : EnvFault) (new : PlainEnv) : Type 0 where
  pub kept : new ≡ old
  pub bad : EditFault
  pub is : f ≡ fault.Edit bad
  pub cause : IsEditFault P e bad

pub refused_at : (search : Option PlainSearch) (e : Edit) (old : PlainEnv) (f : EnvFault) (new : PlainEnv) → IsSome search → EditsEnv search e old (Err f) new → IsRefusedAt (program_in search) e old f new
refused_at None e old f new some edits = absurd cc
refused_at (Some S) e old f new some edits = record { kept = edits.kept; bad = edits.bad; is = edits.is; cause = edits.cause }

-- a model that was loaded
pub loaded_with : (M : Program) (env : PlainEnv) → Holds M env → IsSome env.search × (program_in env.search ≡ M)
loaded_with M env h = (subst IsSome (sym h.search_is) refl, ap program_in h.search_is ∙ h.fresh.model)
