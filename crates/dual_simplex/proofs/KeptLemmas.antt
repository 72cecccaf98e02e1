-- A list that was lent as a slice of the same length, and came back.
use Rattle.std.specs.Prelude.{◌≡◌, ℕ, List, length, take, drop, ◌++◌, [], ℤ}
use Rattle.std.proofs.Common.{sym, ap, ◌∙◌, arith}
use Rattle.std.proofs.lemmas.List.{append-nil, take_all, drop_all}

pub written_back : (n : ℕ) (new old : List ℤ) → n ≡ length old → length new ≡ length old → new ≡ take n (new ++ drop (length new) old)
written_back n new old all same =
    let none : drop (length new) old ≡ [] = drop_all (length new) old (omega (arith, same)) in
    sym (ap (λ zs. take n (new ++ zs)) none ∙ ap (take n) (append-nil new) ∙ take_all n new (omega (arith, all, same)))
