-- What the lines so far and the next one come to.
use Rattle.std.proofs.Common.{◌≡◌, ℕ, zero, suc, ◌+◌, ◌<◌, ◌≤◌, List, [], ◌∷◌, length, take, get_or, map, Bor, refl, sym, ap, subst, ◌∙◌, arith}
use Rattle.std.specs.Prelude.{Ok, Err, Some, None}
use Rattle.std.proofs.lemmas.List.{length-take-le, length-map}
use Rattle.cert_text.specs.declared.reader.CertFault.{CertFault}
use Rattle.cert_text.specs.declared.reader.CertFault.TheVariants.{Bad, Memory}
use Rattle.text_lines.specs.Lines.{line_bytes}
use Rattle.cert_text.specs.declared.cert.Cert.{Cert}
use Rattle.cert_text.specs.declared.reading.Reading.{Reading}
use Rattle.cert_text.specs.Text.{StatedCertificate, stated, end_code, cert_of, AreClean, MeantCertificate, FaultyCertificate, OnLine, AtEnd}
use Rattle.cert_text.specs.Reading.{held, IsNoted, IsReading, IsFaultyLine, IsCertificateAnswer}
use Rattle.cert_text.proofs.TextLemmas.{code_here, holds_more, clean_more}

abbrev pub nows : List (Bor (List ℕ)) → List (List ℕ)
nows lines = map (λ line. line.now) lines

pub line_at : (lines : List (Bor (List ℕ))) (k : ℕ) (d : Bor (List ℕ)) → k < length lines → (get_or lines k d).now ≡ get_or (nows lines) k []
line_at [] k d below = absurd (omega arith)
line_at (line ∷ more) zero d below = refl
line_at (line ∷ more) (suc k) d below = line_at more k d (omega arith)

pub below_nows : (lines : List (Bor (List ℕ))) (k : ℕ) → k < length lines → k < length (nows lines)
below_nows lines k below = rw (length-map lines (λ line. line.now)) below

pub count_is : (lines : List (List ℕ)) (k : ℕ) (s : StatedCertificate) → k ≤ length lines → s ≡ stated (take k lines) → s.count ≡ k
unfolding stated
count_is lines k s below holds = ap (λ (t : StatedCertificate). t.count) holds ∙ length-take-le k lines below

module _ (lines : List (List ℕ)) (k : ℕ) (below : k < length lines) (clean : AreClean lines k) (s : StatedCertificate) (holds : s ≡ stated (take k lines)) (line : List ℕ) (is : line ≡ get_or lines k []) (number : ℕ) (numbered : number ≡ suc k) (t : StatedCertificate) where
  pub told : (fault : CertFault) → IsNoted s line number t (Err fault) → IsReading lines (Err fault)
  told (Bad at code) noted = (k, (below, (clean, (code_here lines k below s line (Some code) holds is noted.0, noted.1 ∙ numbered))))
  told Memory noted = tt

  pub noted_clean : (r : Unit {0}) → IsNoted s line number t (Ok r) → AreClean lines (k + 1)
  noted_clean r noted = clean_more lines k clean (code_here lines k below s line _ holds is noted.0)

  pub noted_holds : (r : Unit {0}) → IsNoted s line number t (Ok r) → t ≡ stated (take (k + 1) lines)
  noted_holds r noted = holds_more lines k below s line _ holds is noted.0 t noted.1

pub end_faulty : (text : List ℕ) (lines : List (List ℕ)) (r : Reading) (line code : ℕ) → lines ≡ line_bytes text → IsReading lines (Ok r) → end_code (held r) ≡ Some code → line ≡ suc (length lines) → FaultyCertificate text line code
end_faulty text lines r line code e reading is at =
    AtEnd (subst (λ (ls : List (List ℕ)). AreClean ls (length ls)) e reading.0)
    (ap (λ (ls : List (List ℕ)). end_code (stated ls)) (sym e) ∙ ap end_code (sym reading.1) ∙ is)
    (at ∙ ap (λ (ls : List (List ℕ)). suc (length ls)) e)

pub meant : (text : List ℕ) (lines : List (List ℕ)) (r : Reading) (cert : Cert) → lines ≡ line_bytes text → IsReading lines (Ok r) → end_code (held r) ≡ None → cert ≡ cert_of (held r) → MeantCertificate text cert
meant text lines r cert e reading none is = record {
  clean = subst (λ (ls : List (List ℕ)). AreClean ls (length ls)) e reading.0;
  ended = ap (λ (ls : List (List ℕ)). end_code (stated ls)) (sym e) ∙ ap end_code (sym reading.1) ∙ none;
  is = is ∙ ap cert_of (reading.1 ∙ ap stated e);
}

pub faulty_answer : (text : List ℕ) (lines : List (List ℕ)) (fault : CertFault) → lines ≡ line_bytes text → IsReading lines (Err fault) → IsCertificateAnswer text (Err fault)
faulty_answer text lines (Bad at code) e reading =
    let here : IsFaultyLine (line_bytes text) at code = subst (λ (ls : List (List ℕ)). IsFaultyLine ls at code) e reading in
    OnLine here.0 here.1.0 here.1.1.0 here.1.1.1.0 here.1.1.1.1
faulty_answer text lines Memory e reading = tt
