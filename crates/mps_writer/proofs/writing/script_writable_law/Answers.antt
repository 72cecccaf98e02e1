use Rattle.mps_writer.proofs.ScriptWritable.{script-writable}
use Rattle.mps_writer.proofs.writing.script_writable_law.Goals as goal

pub returns : goal.returns
returns c = script-writable
