-- What the lines so far and the next one come to.
use Rattle.std.proofs.Common.{◌≡◌, ℕ, zero, suc, ◌+◌, ◌<◌, ◌≤◌, List, [], ◌∷◌, length, take, get_or, map, Bor, refl, sym, ap, ◌∙◌, arith, Bool, true, false, not}
use Rattle.std.specs.Prelude.{Ok, Err, Some, None}
use Rattle.std.proofs.lemmas.List.{length-take-le, length-map}
use Rattle.cert_text.specs.declared.reader.CertFault.{CertFault}
use Rattle.cert_text.specs.declared.reader.CertFault.TheVariants.{Bad, Memory}
use Rattle.text_lines.specs.Lines.{line_bytes}
use Rattle.front_text.specs.declared.front.FrontCert.{FrontCert}
use Rattle.front_text.specs.Lines.{begin_front}
use Rattle.front_text.specs.declared.front_reading.FrontReading.{FrontReading}
use Rattle.front_text.specs.Text.{StatedFront, stated_front, front_end_code, stated_front_cert, AreFrontClean, StateFront, HaveFrontFault, OnLine, AtEnd, is_front_text}
use Rattle.front_text.specs.Reading.{held_front, IsFrontNoted, IsFrontReading, IsFrontRead}
use Rattle.front_text.proofs.TextLemmas.{counted, code_here, holds_more, clean_more}

abbrev pub nows : List (Bor (List ℕ)) → List (List ℕ)
nows lines = map (λ line. line.now) lines

pub line_at : (lines : List (Bor (List ℕ))) (k : ℕ) (d : Bor (List ℕ)) → k < length lines → (get_or lines k d).now ≡ get_or (nows lines) k []
line_at [] k d below = absurd (omega arith)
line_at (line ∷ more) zero d below = refl
line_at (line ∷ more) (suc k) d below = line_at more k d (omega arith)

pub below_nows : (lines : List (Bor (List ℕ))) (k : ℕ) → k < length lines → k < length (nows lines)
below_nows lines k below = rw (length-map lines (λ line. line.now)) below

pub count_is : (lines : List (List ℕ)) (k : ℕ) (s : StatedFront) → k ≤ length lines → s ≡ stated_front (take k lines) → s.count ≡ k
count_is lines k s below holds = ap (λ (t : StatedFront). t.count) holds ∙ counted (take k lines) ∙ length-take-le k lines below

module _ (lines : List (List ℕ)) (k : ℕ) (below : k < length lines) (clean : AreFrontClean lines k) (s : StatedFront) (holds : s ≡ stated_front (take k lines)) (line : List ℕ) (is : line ≡ get_or lines k []) (number : ℕ) (numbered : number ≡ suc k) (t : StatedFront) where
  pub told : (fault : CertFault) → IsFrontNoted s line number t (Err fault) → IsFrontReading lines (Err fault)
  told (Bad at code) noted = (k, (below, (clean, (code_here lines k below s line (Some code) holds is noted.0, noted.1 ∙ numbered))))
  told Memory noted = tt

  pub noted_clean : (r : Unit {0}) → IsFrontNoted s line number t (Ok r) → AreFrontClean lines (k + 1)
  noted_clean r noted = clean_more lines k clean (code_here lines k below s line _ holds is noted.0)

  pub noted_holds : (r : Unit {0}) → IsFrontNoted s line number t (Ok r) → t ≡ stated_front (take (k + 1) lines)
  noted_holds r noted = holds_more lines k below s line _ holds is noted.0 t noted.1

module _ (lines : List (List ℕ)) where
  pub end_faulty : (r : FrontReading) (line code : ℕ) → IsFrontReading lines (Ok r) → front_end_code (held_front r) ≡ Some code → line ≡ suc (length lines) → HaveFrontFault lines line code
  end_faulty r line code reading is at = AtEnd reading.0 (ap front_end_code (sym reading.1) ∙ is) at

  pub states : (r : FrontReading) (cert : FrontCert) → IsFrontReading lines (Ok r) → front_end_code (held_front r) ≡ None → cert ≡ stated_front_cert (held_front r) → StateFront lines cert
  states r cert reading none is = record { clean = reading.0; ended = ap front_end_code (sym reading.1) ∙ none; is = is ∙ ap stated_front_cert reading.1 }

  pub faulty_read : (fault : CertFault) → IsFrontReading lines (Err fault) → IsFrontRead lines (Err fault)
  faulty_read (Bad at code) here = OnLine here.0 here.1.0 here.1.1.0 here.1.1.1.0 here.1.1.1.1
  faulty_read Memory here = tt

-- ---- the answer of either kind

module _ (text : List ℕ) (lines : List (List ℕ)) (are : lines ≡ line_bytes text) where
  -- the kind is asked of the lines
  pub other_kind : (kind found : Bool) → found ≡ begin_front lines → found ≡ kind → is_front_text text ≡ not kind → ⊥
  other_kind true found is e not_front = absurd (let f : true ≡ false = sym e ∙ is ∙ ap begin_front are ∙ not_front in cc)
  other_kind false found is e front = absurd (let f : false ≡ true = sym e ∙ is ∙ ap begin_front are ∙ front in cc)
