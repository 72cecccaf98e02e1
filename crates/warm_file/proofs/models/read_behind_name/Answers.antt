use Rattle.std.proofs.Common.{[], ◌∷◌, codes}
use Rattle.serde_json.specs.View.{view}
use Rattle.warm_file.specs.Values.{member}
use Rattle.warm_file.proofs.Saying.{says-first, says-next}
use Rattle.warm_file.specs.Models.{name_of, program_of}
use Rattle.warm_file.proofs.ModelLaws.{two-names}
use Rattle.warm_file.proofs.models.read_behind_name.Goals as goal

pub read_program-requires : goal.read_program-requires
read_program-requires c = λ e. two-names c.args.obj c.in-Ok.obj2 (view c.args.value.now) c.in-Ok.ensures e

pub returns-in-Ok : goal.returns-in-Ok
returns-in-Ok c =
    let d = view c.args.value.now in
    says-next (member (codes "obj2") (name_of (c.args.obj ∷ [])) d) (λ obj2. program_of c.args.sense c.args.obj obj2 d) c.in-Ok.obj2 c.read_program.result c.in-Ok.ensures c.read_program.ensures

pub returns-in-Err : goal.returns-in-Err
returns-in-Err c =
    let d = view c.args.value.now in
    says-first (member (codes "obj2") (name_of (c.args.obj ∷ [])) d) (λ obj2. program_of c.args.sense c.args.obj obj2 d) c.in-Err.fault c.in-Err.ensures
