-- What contracts of private functions alone cite, beside specs/Faults.
use Rattle.std.specs.Prelude.{◌≡◌, Result, Ok, Err}
use Rattle.warm_file.specs.declared.fault.WarmFault.{WarmFault}
use Rattle.warm_file.specs.declared.fault.WarmFault.TheVariants.{Bad, Memory}
use Rattle.warm_file.specs.Faults.{Fault}

-- the answer is what is stated, or its first fault, or there is no memory
abbrev pub SaysFault : {A : Type 0} → Result A Fault → Result A WarmFault → Type 0
SaysFault said (Ok a) = said ≡ Ok a
SaysFault said (Err (Bad place code)) = said ≡ Err (record { place = place; code = code })
SaysFault said (Err Memory) = Unit {0}
