-- Each text states one certificate or has one fault.
use Rattle.std.proofs.Common.{◌≡◌, ◌⊎◌, ℕ, zero, suc, ◌+◌, ◌<◌, List, length, refl, sym, ◌∙◌, arith, below_more, inl, inr}
use Rattle.std.specs.Prelude.{Option, None, Some}
use Rattle.cert_text.specs.declared.cert.Cert.{Cert}
use Rattle.text_lines.specs.Lines.{line_bytes}
use Rattle.cert_text.specs.Text.{stated, end_code, code_at, AreClean, cert_of, MeantCertificate, FaultyCertificate, OnLine, AtEnd}
use Rattle.cert_text.specs.Laws.{CertificateMeansOne}

none_some : (o : Option ℕ) (c : ℕ) → o ≡ None → o ≡ Some c → ⊥
none_some o c e f = let g : None ≡ Some c = sym e ∙ f in cc

same_code : (o : Option ℕ) (c d : ℕ) → o ≡ Some c → o ≡ Some d → c ≡ d
same_code o c d e f = let g : Some c ≡ Some d = sym e ∙ f in cc

order : (a b : ℕ) → (a < b) ⊎ ((a ≡ b) ⊎ (b < a))
order zero zero = inr (inl refl)
order zero (suc b) = inl (omega arith)
order (suc a) zero = inr (inr (omega arith))
order (suc a) (suc b) =
    elim (order a b) [
      | inl h ↦ inl (omega (arith, h))
      | inr h ↦ elim h [
        | inl e ↦ inr (inl (omega (arith, e)))
        | inr g ↦ inr (inr (omega (arith, g)))
      ]
    ]

-- the first n lines are clean, or one of them is the first with a code
abbrev First : List (List ℕ) → ℕ → Type 0
First lines n = AreClean lines n ⊎ ((k : ℕ) × ((k < n) × (AreClean lines k × ((code : ℕ) × (code_at lines k ≡ Some code)))))

first_more : (lines : List (List ℕ)) (n : ℕ) (o : Option ℕ) → code_at lines n ≡ o → First lines n → First lines (n + 1)
first_more lines n None e (inl clean) = inl (below_more (λ k. code_at lines k ≡ None) n clean e)
first_more lines n (Some code) e (inl clean) = inr (n, (omega arith, (clean, (code, e))))
first_more lines n o e (inr found) = inr (found.0, (let h = found.1.0 in omega (arith, h), found.1.1))

first : (lines : List (List ℕ)) (n : ℕ) → First lines n
first lines zero = inl (λ k below. absurd (omega arith))
first lines (suc n) =
    let up : n + 1 ≡ suc n = omega arith in
    Rattle.std.proofs.Common.subst (First lines) up (first_more lines n (code_at lines n) refl (first lines n))

module _ (text : List ℕ) where
  abbrev Some_reading : Type 0
  Some_reading = ((cert : Cert) × MeantCertificate text cert) ⊎ ((line : ℕ) × ((code : ℕ) × FaultyCertificate text line code))

  at_end : AreClean (line_bytes text) (length (line_bytes text)) → (o : Option ℕ) → end_code (stated (line_bytes text)) ≡ o → Some_reading
  at_end clean None e = inl (cert_of (stated (line_bytes text)), record { clean = clean; ended = e; is = refl })
  at_end clean (Some code) e = inr (suc (length (line_bytes text)), (code, AtEnd clean e refl))

  some_reading : First (line_bytes text) (length (line_bytes text)) → Some_reading
  some_reading (inl clean) = at_end clean (end_code (stated (line_bytes text))) refl
  some_reading (inr found) = inr (suc found.0, (found.1.1.1.0, OnLine found.0 found.1.0 found.1.1.0 found.1.1.1.1 refl))

  one_fault : (l c m d : ℕ) → FaultyCertificate text l c → FaultyCertificate text m d → (l ≡ m) × (c ≡ d)
  one_fault l c m d (OnLine k below clean has is) (OnLine j below_j clean_j has_j is_j) =
      elim (order k j) [
        | inl h ↦ absurd (none_some (code_at (line_bytes text) k) c (clean_j k h) has)
        | inr h ↦ elim h [
          | inl e ↦ (omega (arith, is, is_j, e), same_code (code_at (line_bytes text) j) c d (Rattle.std.proofs.Common.subst (λ n. code_at (line_bytes text) n ≡ Some c) e has) has_j)
          | inr g ↦ absurd (none_some (code_at (line_bytes text) j) d (clean j g) has_j)
        ]
      ]
  one_fault l c m d (OnLine k below clean has is) (AtEnd all has_j is_j) = absurd (none_some (code_at (line_bytes text) k) c (all k below) has)
  one_fault l c m d (AtEnd all has is) (OnLine j below_j clean_j has_j is_j) = absurd (none_some (code_at (line_bytes text) j) d (all j below_j) has_j)
  one_fault l c m d (AtEnd all has is) (AtEnd all_j has_j is_j) = (omega (arith, is, is_j), same_code (end_code (stated (line_bytes text))) c d has has_j)

  not_both : (cert : Cert) (l c : ℕ) → MeantCertificate text cert → FaultyCertificate text l c → ⊥
  not_both cert l c meant (OnLine k below clean has is) = none_some (code_at (line_bytes text) k) c (meant.clean k below) has
  not_both cert l c meant (AtEnd all has is) = none_some (end_code (stated (line_bytes text))) c meant.ended has

pub means_one : (text : List ℕ) → CertificateMeansOne text
means_one text = record {
  some = some_reading text (first (line_bytes text) (length (line_bytes text)));
  one_meaning = λ a b m n. m.is ∙ sym n.is;
  one_fault = one_fault text;
  not_both = not_both text;
}
