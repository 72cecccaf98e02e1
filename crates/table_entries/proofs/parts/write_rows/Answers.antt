use Rattle.std.proofs.Common.{ℕ, ◌≡◌, ◌≢◌, ◌<◌, ◌∙◌, refl, sym, ap, subst, arith, below_more, get_or, set, length, true, false}
use Rattle.std.proofs.lemmas.Bool.{false≢true}
use Rattle.table_entries.specs.WholeSteps.{is_unwritten}
use Rattle.table_entries.specs.Parts.{any_entry}
use Rattle.table_entries.specs.private.Parts.{IsLight, IsRowTouched}
use Rattle.table_entries.proofs.PartRows.{light_still, row_added, flag_same, flag_other, flag_still}
use Rattle.table_entries.proofs.parts.write_rows.Goals as goal
use Rattle.table_entries.proofs.parts.write_rows.Goals.{then-unwritten-row, else-unwritten-row}

pub loop-row-init : goal.loop-row-init
loop-row-init c = record { size = refl; light = c.requires.light; columns_written = c.requires.columns_written; same = λ i k p q. refl; written = λ i less. absurd (omega (arith, less)) }

pub loop-row-preserved : goal.loop-row-preserved
loop-row-preserved c =
    let a = c.args in
    let row = c.loop-row.row in
    let flags = c.loop-row.unwritten in
    let now = c.loop-row.entries in
    let inv = c.loop-row.invariant in
    let slots = λ (j : ℕ). get_or a.slots.now j 0 in
    let row_within : row < length flags = (let w = c.loop-row-test.true in let e = c.loop-row.auto.unwritten in let f = c.requires.flags in omega (arith, w, e, f)) in
    elim c.if-unwritten-row.branch [
      | then-unwritten-row w ↦
          let new = w.write_numbers.new.entries in
          let open_row : is_unwritten flags row ≡ true = w.if-unwritten-row.true in
          let listed = (inv.light row c.loop-row-test.true open_row).listed in
          let touched : IsRowTouched a.columns row now new = w.write_numbers.ensures.touched in
          let apart : (j : ℕ) → j < a.columns → slots j ≢ row =
          λ j q same. false≢true (sym (inv.columns_written j q (subst (λ n. n < a.rows) (sym same) c.loop-row-test.true)) ∙ ap (is_unwritten flags) same ∙ open_row) in
          record {
            size = ap (λ v. length v.list) w.entries-is ∙ touched.size ∙ inv.size;
            light = λ i p e.
                let e' : is_unwritten (set flags row false) i ≡ true = ap (λ fs. is_unwritten fs i) (sym w.unwritten-is) ∙ e in
                let other : i ≢ row = λ same. false≢true (sym (flag_same flags row false row_within) ∙ ap (is_unwritten (set flags row false)) (sym same) ∙ e') in
                subst (λ v. IsLight a.rows a.columns v a.coefficients.now slots i) (sym w.entries-is)
                (light_still a.rows a.columns a.coefficients.now slots row now new listed touched apart i (inv.light i p (sym (flag_other flags row i false other) ∙ e')));
            columns_written = λ j q h. ap (λ fs. is_unwritten fs (slots j)) w.unwritten-is ∙ flag_still flags row (slots j) row_within (inv.columns_written j q h);
            same = λ i k p q.
                (λ z. any_entry a.rows a.columns a.coefficients.now slots (w.unwritten-is z) (w.entries-is z).list i k)
                ∙ row_added a.rows a.columns a.coefficients.now slots row now new listed touched apart w.write_numbers.ensures.written flags (set flags row false) open_row (λ i other. flag_other flags row i false other) i k q
                ∙ inv.same i k p q;
            written = λ i less. ap (λ fs. is_unwritten fs i) w.unwritten-is
                ∙ below_more (λ i. is_unwritten (set flags row false) i ≡ false) row (λ i q. flag_still flags row i row_within (inv.written i q)) (flag_same flags row false row_within) i less;
          }
      | else-unwritten-row w ↦
          record {
            size = ap (λ v. length v.list) w.entries-is ∙ inv.size;
            light = λ i p e. subst (λ v. IsLight a.rows a.columns v a.coefficients.now slots i) (sym w.entries-is) (inv.light i p (ap (λ fs. is_unwritten fs i) (sym w.unwritten-is) ∙ e));
            columns_written = λ j q h. ap (λ fs. is_unwritten fs (slots j)) w.unwritten-is ∙ inv.columns_written j q h;
            same = λ i k p q. (λ z. any_entry a.rows a.columns a.coefficients.now slots (w.unwritten-is z) (w.entries-is z).list i k) ∙ inv.same i k p q;
            written = λ i less. ap (λ fs. is_unwritten fs i) w.unwritten-is ∙ below_more (λ i. is_unwritten flags i ≡ false) row inv.written w.if-unwritten-row.false i less;
          }
    ]
