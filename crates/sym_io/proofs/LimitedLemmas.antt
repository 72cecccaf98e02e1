-- What a reader that is cut one byte past a limit tells of the whole.
use Rattle.std.proofs.Common.{◌≡◌, ◌≤◌, ◌+◌, ℕ, List, [], ◌++◌, length, take, ◌∙◌, subst, arith, Option, Some, None}
use Rattle.std.specs.Prelude.{IfSome}
use Rattle.std.specs.Option.{option_map}
use Rattle.std.proofs.lemmas.List.{length-take, take_all}
use Rattle.sym_io.specs.private.Limited.{ReadsWithin}

-- no more than the limit of what is cut one byte past it: nothing was cut
whole : (limit : ℕ) (bytes : List ℕ) → length (take (limit + 1) bytes) ≤ limit → length bytes ≤ limit
whole limit bytes short = let long = length-take (limit + 1) bytes in omega arith

cut-within : (limit : ℕ) (left : Option (List ℕ)) (read : List ℕ)
    → IfSome (option_map (take (limit + 1)) left) (λ bytes. read ≡ bytes) → length read ≤ limit
    → IfSome left (λ bytes. ReadsWithin limit bytes (Some read))
cut-within limit None read cut short = tt
cut-within limit (Some bytes) read cut short =
    let all = whole limit bytes (subst (λ xs. length xs ≤ limit) cut short) in
    let more : length bytes ≤ limit + 1 = omega arith in
    (cut ∙ take_all (limit + 1) bytes more, all)

-- the same, where what is cut is a reader's bytes, and they are appended to none
pub reads-within : (limit : ℕ) (left : Option (List ℕ)) (read : List ℕ) (taken : ℕ) (inner : Option (List ℕ)) (before : List ℕ)
    → taken ≡ limit + 1 → inner ≡ left → before ≡ []
    → IfSome (option_map (take taken) inner) (λ bytes. read ≡ before ++ bytes) → length read ≤ limit
    → IfSome left (λ bytes. ReadsWithin limit bytes (Some read))
reads-within limit left read taken inner before is_limit is_left is_none cut short =
    cut-within limit left read
    (subst (λ b. IfSome (option_map (take (limit + 1)) left) (λ bytes. read ≡ b ++ bytes)) is_none
    (subst (λ o. IfSome (option_map (take (limit + 1)) o) (λ bytes. read ≡ before ++ bytes)) is_left
    (subst (λ n. IfSome (option_map (take n) inner) (λ bytes. read ≡ before ++ bytes)) is_limit cut))) short
