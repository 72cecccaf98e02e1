use Rattle.std.proofs.Common.{ℕ, List, ◌+◌, ◌<◌, length, sym, ◌∙◌, ap, subst, arith, Some, Option}
use Rattle.std.specs.Prelude.{IsSomeAnd, Vec}
use Rattle.std.specs.Option.{option_map}
use Rattle.std.specs.declared.alloc.Global.{Global}
use Rattle.sym_io.specs.declared.traits.TheConstants.{MAX_FILE_LENGTH}
use Rattle.memory_ends.proofs.FileLemmas.{get-files_of}
use Rattle.memory_ends.proofs.mem_store.MemStoreStore.get.Goals as goal

pub returns-in_default-clause-answer : goal.returns-in_default-clause-answer
returns-in_default-clause-answer c =
    (ap (λ failed. failed + c.args.self.now.refused) c.in-Ok.ensures.ok, get-files_of c.args.self.now.files.entries c.args.name.now ∙ ap (option_map (λ (bytes : Vec ℕ Global). bytes.items)) (sym c.in_default.ensures.value))

pub returns-then-len-gt-MAX_FILE_LENGTH-clause-answer : goal.returns-then-len-gt-MAX_FILE_LENGTH-clause-answer
returns-then-len-gt-MAX_FILE_LENGTH-clause-answer c =
    let found = get-files_of c.args.self.now.files.entries c.args.name.now ∙ ap (option_map (λ (bytes : Vec ℕ Global). bytes.items)) (sym c.in-Some.ensures.value) in
    let P : Option (List ℕ) → Type 0 = λ file. IsSomeAnd file (λ bytes. MAX_FILE_LENGTH < length bytes) in
    subst P (sym found) (omega arith)

pub returns-in-Ok-to_vec-clause-answer : goal.returns-in-Ok-to_vec-clause-answer
returns-in-Ok-to_vec-clause-answer c =
    let found = get-files_of c.args.self.now.files.entries c.args.name.now ∙ ap (option_map (λ (bytes : Vec ℕ Global). bytes.items)) (sym c.in-Some.ensures.value) in
    let same = c.in-Ok-to_vec.ensures.items_if_clones_equal (λ x y e. e) ∙ c.deref.ensures.value in
    let long = ap length same in
    (omega arith, found ∙ ap Some (sym same))
