-- What the adapters keep: the end that they stand for, and their faults so far.
use Rattle.std.specs.Prelude.{ℕ}
use Rattle.sym_io.specs.declared.standard.StandardInput.{StandardInput}
use Rattle.sym_io.specs.declared.standard.StandardOutput.{StandardOutput}
use Rattle.sym_io.specs.declared.standard.CurrentFolder.{CurrentFolder}

abbrev pub input_reader : {R : Type 0} → StandardInput R → R
input_reader input = input.reader

abbrev pub input_faults : {R : Type 0} → StandardInput R → ℕ
input_faults input = input.faults

abbrev pub output_writer : {W : Type 0} → StandardOutput W → W
output_writer output = output.writer

abbrev pub output_faults : {W : Type 0} → StandardOutput W → ℕ
output_faults output = output.faults

abbrev pub folder_faults : {R File Dir : Type 0} → CurrentFolder R File Dir → ℕ
folder_faults folder = folder.faults
