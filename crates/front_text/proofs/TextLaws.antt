-- Each text states one front or has one fault.
use Rattle.std.proofs.Common.{◌≡◌, ◌⊎◌, ℕ, zero, suc, ◌+◌, ◌<◌, List, length, refl, sym, ◌∙◌, arith, below_more, inl, inr, subst}
use Rattle.std.specs.Prelude.{Option, None, Some}
use Rattle.text_lines.specs.Lines.{line_bytes}
use Rattle.front_text.specs.declared.front.FrontCert.{FrontCert}
use Rattle.front_text.specs.Text.{stated_front, front_end_code, front_code_at, AreFrontClean, stated_front_cert, StateFront, HaveFrontFault, OnLine, AtEnd}
use Rattle.front_text.specs.Laws.{FrontMeansOne}

none_some : (o : Option ℕ) (c : ℕ) → o ≡ None → o ≡ Some c → ⊥
none_some o c e f = let g : None ≡ Some c = sym e ∙ f in cc

same_code : (o : Option ℕ) (c d : ℕ) → o ≡ Some c → o ≡ Some d → c ≡ d
same_code o c d e f = let g : Some c ≡ Some d = sym e ∙ f in cc

order : (a b : ℕ) → (a < b) ⊎ ((a ≡ b) ⊎ (b < a))
order zero zero = inr (inl refl)
order zero (suc b) = inl (omega arith)
order (suc a) zero = inr (inr (omega arith))
order (suc a) (suc b) =
    elim (order a b) [
      | inl h ↦ inl (omega (arith, h))
      | inr h ↦ elim h [
        | inl e ↦ inr (inl (omega (arith, e)))
        | inr g ↦ inr (inr (omega (arith, g)))
      ]
    ]

module _ (lines : List (List ℕ)) where
  -- the first n lines are clean, or one of them is the first with a code
  abbrev First : ℕ → Type 0
  First n = AreFrontClean lines n ⊎ ((k : ℕ) × ((k < n) × (AreFrontClean lines k × ((code : ℕ) × (front_code_at lines k ≡ Some code)))))

  first_more : (n : ℕ) (o : Option ℕ) → front_code_at lines n ≡ o → First n → First (n + 1)
  first_more n None e (inl clean) = inl (below_more (λ k. front_code_at lines k ≡ None) n clean e)
  first_more n (Some code) e (inl clean) = inr (n, (omega arith, (clean, (code, e))))
  first_more n o e (inr found) = inr (found.0, (let h = found.1.0 in omega (arith, h), found.1.1))

  first : (n : ℕ) → First n
  first zero = inl (λ k below. absurd (omega arith))
  first (suc n) =
      let up : n + 1 ≡ suc n = omega arith in
      subst First up (first_more n (front_code_at lines n) refl (first n))

  abbrev Stated_or_faulty : Type 0
  Stated_or_faulty = ((cert : FrontCert) × StateFront lines cert) ⊎ ((line : ℕ) × ((code : ℕ) × HaveFrontFault lines line code))

  at_end : AreFrontClean lines (length lines) → (o : Option ℕ) → front_end_code (stated_front lines) ≡ o → Stated_or_faulty
  at_end clean None e = inl (stated_front_cert (stated_front lines), record { clean = clean; ended = e; is = refl })
  at_end clean (Some code) e = inr (suc (length lines), (code, AtEnd clean e refl))

  some_reading : First (length lines) → Stated_or_faulty
  some_reading (inl clean) = at_end clean (front_end_code (stated_front lines)) refl
  some_reading (inr found) = inr (suc found.0, (found.1.1.1.0, OnLine found.0 found.1.0 found.1.1.0 found.1.1.1.1 refl))

  pub some_stated : Stated_or_faulty
  some_stated = some_reading (first (length lines))

  pub one_fault : (l c m d : ℕ) → HaveFrontFault lines l c → HaveFrontFault lines m d → (l ≡ m) × (c ≡ d)
  one_fault l c m d (OnLine k below clean has is) (OnLine j below_j clean_j has_j is_j) =
      elim (order k j) [
        | inl h ↦ absurd (none_some (front_code_at lines k) c (clean_j k h) has)
        | inr h ↦ elim h [
          | inl e ↦ (omega (arith, is, is_j, e), same_code (front_code_at lines j) c d (subst (λ n. front_code_at lines n ≡ Some c) e has) has_j)
          | inr g ↦ absurd (none_some (front_code_at lines j) d (clean j g) has_j)
        ]
      ]
  one_fault l c m d (OnLine k below clean has is) (AtEnd all has_j is_j) = absurd (none_some (front_code_at lines k) c (all k below) has)
  one_fault l c m d (AtEnd all has is) (OnLine j below_j clean_j has_j is_j) = absurd (none_some (front_code_at lines j) d (all j below_j) has_j)
  one_fault l c m d (AtEnd all has is) (AtEnd all_j has_j is_j) = (omega (arith, is, is_j), same_code (front_end_code (stated_front lines)) c d has has_j)

  pub not_both : (cert : FrontCert) (l c : ℕ) → StateFront lines cert → HaveFrontFault lines l c → ⊥
  not_both cert l c states (OnLine k below clean has is) = none_some (front_code_at lines k) c (states.clean k below) has
  not_both cert l c states (AtEnd all has is) = none_some (front_end_code (stated_front lines)) c states.ended has

pub front_means_one : (text : List ℕ) → FrontMeansOne text
front_means_one text = record {
  some = some_stated (line_bytes text);
  one_meaning = λ a b m n. m.is ∙ sym n.is;
  one_fault = one_fault (line_bytes text);
  not_both = not_both (line_bytes text);
}
