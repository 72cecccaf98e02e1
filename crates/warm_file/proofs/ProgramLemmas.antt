-- The constants, the rows and the columns that are read behind the names of the objectives make a model.
use Rattle.std.specs.Prelude.{◌≡◌, ◌≢◌, ℕ, List, [], ◌∷◌, length, codes, false, Result, Ok, Err}
use Rattle.std.proofs.Common.{refl, sym, subst, ◌∙◌}
use Rattle.frac128.specs.Rational.{ℚ}
use Rattle.lp_model.specs.Program.{Program}
use Rattle.lp_model.specs.Lawful.{IsLawful}
use Rattle.lp_model.specs.declared.types.Sense.{Sense}
use Rattle.lp_model.specs.declared.types.Row.{Row}
use Rattle.lp_model.specs.declared.types.Col.{Col}
use Rattle.serde_json.specs.Data.{Data}
use Rattle.warm_file.specs.Faults.{Fault, behind}
use Rattle.warm_file.specs.private.Faults.{SaysFault}
use Rattle.warm_file.specs.Values.{member}
use Rattle.warm_file.specs.Numbers.{number_of}
use Rattle.warm_file.specs.declared.fault.WarmFault.{WarmFault}
use Rattle.warm_file.proofs.Inversions.{next-ok}
use Rattle.warm_file.specs.Models.{rows_of, cols_of, lists_of, program_of}
use Rattle.warm_file.specs.private.Joined.{both_of, rows_and_cols_of}
use Rattle.warm_file.proofs.JoinLemmas.{three-ok, three-bad}
use Rattle.warm_file.proofs.ModelLaws.{model-lawful}

abbrev Lists : Type 0
Lists = List Row × List Col

second-ok : {A B : Type 0} (f : Result A Fault) (s : Result B Fault) (p : A × B) → both_of f s ≡ Ok p → s ≡ Ok p.1
second-ok f s p e =
    let a = next-ok f (λ x. behind s (λ y. Ok (x, y))) p e in
    let b = next-ok s (λ y. Ok (a.0, y)) p a.1.1 in
    let same : (a.0, b.0) ≡ p = let h = b.1.1 in cc in
    b.1.0 ∙ (λ i. Ok (same i).1)

record AreStated (obj obj2 : List ℕ) (d : Data) (q : Lists) : Type 0 where
  rows : member (codes "rows") (rows_of obj obj2) d ≡ Ok q.0
  cols : member (codes "cols") (cols_of (length q.0)) d ≡ Ok q.1

stated : (obj obj2 : List ℕ) (d : Data) (q : Lists) → rows_and_cols_of obj obj2 d ≡ Ok q → AreStated obj obj2 d q
unfolding rows_and_cols_of behind
stated obj obj2 d q e =
    let r = next-ok (member (codes "rows") (rows_of obj obj2) d) (λ rows. both_of (Ok rows) (member (codes "cols") (cols_of (length rows)) d)) q e in
    let k = next-ok (member (codes "cols") (cols_of (length r.0)) d) (λ cols. Ok (r.0, cols)) q r.1.1 in
    let same : (r.0, k.0) ≡ q = let h = k.1.1 in cc in
    subst (AreStated obj obj2 d) same (record { rows = r.1.0; cols = k.1.0 })

lists-same : (rows : Result (List Row) Fault) (cols : List Row → Result (List Col) Fault) (make : Lists → Result Program Fault)
    → behind {A = List Row} {B = Program} rows (λ r. behind (cols r) (λ k. make (r, k))) ≡ behind {A = Lists} {B = Program} (behind rows (λ r. both_of (Ok r) (cols r))) make
unfolding behind
lists-same (Err e) cols make = refl
lists-same (Ok r) cols make = by (cols r)
  where
    by : (c : Result (List Col) Fault) → behind {A = List Col} {B = Program} c (λ k. make (r, k)) ≡ behind {A = Lists} {B = Program} (both_of (Ok r) c) make
    by (Err e) = refl
    by (Ok k) = refl

module _ (sense : Sense) (obj obj2 : List ℕ) (d : Data) where
  abbrev made : ℚ → ℚ → Lists → Program
  made first second q = record { sense = sense; obj = obj; obj2 = obj2; consts = first ∷ second ∷ []; rows = q.0; cols = q.1; wide = false }

  abbrev all_of : Result ((ℚ × ℚ) × Lists) Fault
  all_of = both_of (both_of (member (codes "const") number_of d) (member (codes "const2") number_of d)) (rows_and_cols_of obj obj2 d)

  program-is : program_of sense obj obj2 d
      ≡ behind (member (codes "const") number_of d) (λ first. behind (member (codes "const2") number_of d) (λ second. behind (rows_and_cols_of obj obj2 d) (λ q. Ok (made first second q))))
  unfolding program_of lists_of rows_and_cols_of
  program-is =
      λ i. behind (member (codes "const") number_of d) (λ first. behind (member (codes "const2") number_of d) (λ second.
      lists-same (member (codes "rows") (rows_of obj obj2) d) (λ rows. member (codes "cols") (cols_of (length rows)) d) (λ q. Ok (made first second q)) i))

  pub program-lawful : (p : (ℚ × ℚ) × Lists) → obj ≢ obj2 → all_of ≡ Ok p → IsLawful (made p.0.0 p.0.1 p.1)
  program-lawful p h e =
      let are = stated obj obj2 d p.1 (second-ok (both_of (member (codes "const") number_of d) (member (codes "const2") number_of d)) (rows_and_cols_of obj obj2 d) p e) in
      model-lawful sense obj obj2 (p.0.0 ∷ p.0.1 ∷ []) d p.1.0 p.1.1 refl h are.rows are.cols

  pub program-ok : (p : (ℚ × ℚ) × Lists) → all_of ≡ Ok p → program_of sense obj obj2 d ≡ Ok (made p.0.0 p.0.1 p.1)
  program-ok p e =
      program-is
      ∙ three-ok (member (codes "const") number_of d) (member (codes "const2") number_of d) (rows_and_cols_of obj obj2 d) (λ first second q. Ok (made first second q)) p (made p.0.0 p.0.1 p.1) e refl

  pub program-bad : (w : WarmFault) → SaysFault {A = (ℚ × ℚ) × Lists} all_of (Err w) → SaysFault {A = Program} (program_of sense obj obj2 d) (Err w)
  program-bad w h =
      subst (λ (q : Result Program Fault). SaysFault q (Err w)) (sym program-is)
      (three-bad (member (codes "const") number_of d) (member (codes "const2") number_of d) (rows_and_cols_of obj obj2 d) (λ first second q. Ok (made first second q)) w h)
