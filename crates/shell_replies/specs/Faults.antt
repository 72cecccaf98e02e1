-- The line of each fault of an edit, or of the text of a search.
use Rattle.std.specs.Prelude.{ℕ, List}
use Rattle.model_edits.specs.declared.faults.EditFault.{EditFault}
use Rattle.model_edits.specs.declared.faults.EditFault.TheVariants.{NoSuch, Duplicate, Limit, IntegerUnbounded, Ranged, Memory}
use Rattle.warm_file.specs.declared.fault.WarmFault.{WarmFault}
use Rattle.warm_file.specs.declared.fault.WarmFault.TheVariants as warm
use Rattle.reply_texts.specs.Texts.{unknown_name_text, taken_text, limit_text, bounds_text, sides_text, warm_text, memory_text}

-- the line of each fault; the order of the faults is that of the lines' numbers
abbrev pub edit_fault_text : EditFault → List ℕ
edit_fault_text (NoSuch name) = unknown_name_text name
edit_fault_text (Duplicate name) = taken_text name
edit_fault_text (Limit n) = limit_text n
edit_fault_text (IntegerUnbounded name) = bounds_text name
edit_fault_text (Ranged name) = sides_text name
edit_fault_text Memory = memory_text

abbrev pub warm_fault_text : WarmFault → List ℕ
warm_fault_text (warm.Bad place code) = warm_text place code
warm_fault_text warm.Memory = memory_text
