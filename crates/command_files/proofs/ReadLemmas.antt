-- What a store answers, and what its text states, as the causes of what is answered of the file.
use Rattle.std.proofs.Common.{◌≡◌, ℕ, List, refl, sym, subst, inl, inr, Option}
use Rattle.std.specs.Prelude.{Bool, true, false, Vec, Ok, Err}
use Rattle.std.specs.declared.alloc.Global.{Global}
use Rattle.sym_io.specs.Files.{Files, Gets}
use Rattle.sym_io.specs.declared.traits.StoreFault.{StoreFault}
use Rattle.sym_io.specs.declared.traits.StoreFault.TheVariants as store
use Rattle.mps_model.specs.Answers.{IsModelAnswer}
use Rattle.mps_model.specs.declared.reader.MpsFault.{MpsFault}
use Rattle.mps_model.specs.declared.reader.MpsFault.TheVariants as mps
use Rattle.cert_text.specs.declared.reader.CertFault.{CertFault}
use Rattle.cert_text.specs.declared.reader.CertFault.TheVariants as cert
use Rattle.front_text.specs.declared.front.AnyCert.{AnyCert}
use Rattle.front_text.specs.declared.front.AnyCert.TheVariants.{One, Front}
use Rattle.front_text.specs.Text.{is_front_text}
use Rattle.front_text.specs.Reading.{IsOneAnswer, IsFrontAnswer}
use Rattle.command_files.specs.Reading.{HasText, IsFaulty, ReadsFile}
use Rattle.command_files.specs.Checking.{StatesCert, FaultyWhere, IsFaultyCert, ReadsCert}
use Rattle.command_files.specs.Refusals.{refusal_of_store, refusal_of_text, refusal_of_cert}

-- ---- a text of either kind

module _ (text : List ℕ) where
  -- a text that is read is of the kind of what it states
  pub stated-kind : (c : AnyCert) → (is_front_text text ≡ false → IsOneAnswer text (Ok c)) → (is_front_text text ≡ true → IsFrontAnswer text (Ok c)) → StatesCert text c
  stated-kind c one front = by (is_front_text text) refl
    where
      of_one : (d : AnyCert) → is_front_text text ≡ false → IsOneAnswer text (Ok d) → StatesCert text d
      of_one (One d) is h = (is, h)
      of_one (Front d) is h = absurd h

      of_front : (d : AnyCert) → is_front_text text ≡ true → IsFrontAnswer text (Ok d) → StatesCert text d
      of_front (One d) is h = absurd h
      of_front (Front d) is h = (is, h)

      by : (kind : Bool) → is_front_text text ≡ kind → StatesCert text c
      by false is = of_one c is (one is)
      by true is = of_front c is (front is)

  pub faulty-where : (line code : ℕ) → (is_front_text text ≡ false → IsOneAnswer text (Err (cert.Bad line code))) → (is_front_text text ≡ true → IsFrontAnswer text (Err (cert.Bad line code))) → IsFaultyCert text line code
  faulty-where line code one front = by (is_front_text text) refl
    where
      by : (kind : Bool) → is_front_text text ≡ kind → IsFaultyCert text line code
      by false is = subst (λ k. FaultyWhere k text line code) (sym is) (one is)
      by true is = subst (λ k. FaultyWhere k text line code) (sym is) (front is)

-- ---- what a store answers

module _ (files : Option Files) (name : List ℕ) (before after : ℕ) where
  pub model-missing : (intupper : Option ℕ) (f : StoreFault) → Gets files name before after (Err f) → ReadsFile files name intupper before after (Err (refusal_of_store f))
  model-missing intupper store.Missing g = inr g.1
  model-missing intupper store.Failed g = inl g
  model-missing intupper store.TooLong g = g
  model-missing intupper store.Memory g = tt

  pub cert-missing : (f : StoreFault) → Gets files name before after (Err f) → ReadsCert files name before after (Err (refusal_of_store f))
  cert-missing store.Missing g = inr g.1
  cert-missing store.Failed g = inl g
  cert-missing store.TooLong g = g
  cert-missing store.Memory g = tt

  -- the text that was read
  module _ (bytes : Vec ℕ Global) (text : List ℕ) (held : Gets files name before after (Ok bytes)) (same : text ≡ bytes.items) where
    pub text-read : (P : List ℕ → Type 0) → P text → HasText files name P
    text-read P is = record { text = bytes.items; held = held.1; short = held.0; is = subst P same is }

    pub model-faulty : (intupper : Option ℕ) (f : MpsFault) → IsModelAnswer text intupper (Err f) → ReadsFile files name intupper before after (Err (refusal_of_text f))
    model-faulty intupper (mps.Bad line code) h = text-read (IsFaulty intupper line code) h
    model-faulty intupper mps.Memory h = tt

    pub cert-faulty : (f : CertFault) → (is_front_text text ≡ false → IsOneAnswer text (Err f)) → (is_front_text text ≡ true → IsFrontAnswer text (Err f)) → ReadsCert files name before after (Err (refusal_of_cert f))
    cert-faulty (cert.Bad line code) one front = text-read (λ t. IsFaultyCert t line code) (faulty-where text line code one front)
    cert-faulty cert.Memory one front = tt
