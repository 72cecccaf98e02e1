-- What `cert F` may answer, and the file that it leaves.
use Rattle.std.specs.Prelude.{◌≡◌, ℕ, ◌≤◌, List, Option, Some, None}
use Rattle.sound_searches.specs.Sound.{PlainSearch}
use Rattle.cert_text.specs.Text.{MeantCertificate as States}
use Rattle.cert_text.specs.declared.cert.Cert.{Cert}
use Rattle.front_text.specs.Text.{MeantFront}
use Rattle.front_text.specs.declared.front.FrontCert.{FrontCert}
use Rattle.tree_cert.specs.Certificates.{unbounded_certificate}
use Rattle.frac128.specs.Rational.{ℚ}
use Rattle.lp_model.specs.Program.{Program, Point}
use Rattle.cert_commands.specs.Certificates.{IsCertificateText, IsWithinText, IsUnboundedText, IsFrontText, IsEmptinessText}
use Rattle.kept_env.specs.declared.held.Held.{Held}
use Rattle.kept_env.specs.declared.held.Held.TheVariants.{Nothing, Finished, Within, Unbounded, Front, Infeasible}
use Rattle.command_files.specs.Filing.{Writes}
use Rattle.reply_texts.specs.Texts.{no_model_text, no_answer_text}
use Rattle.command_family.specs.State.{ShellState}
use Rattle.command_family.specs.Unchanged.{IsTold}

-- The bytes are the text of the search's certificate. They read as that certificate, which is accepted for the search's model, so that
-- its claim is true.
pub record IsReadCertificate (S : PlainSearch) (text : List ℕ) : Type 0 where
  pub is : IsCertificateText S text
  pub stated : States text is.cert

-- The same of a search within this gap.
pub record IsReadWithin (S : PlainSearch) (g : ℚ) (text : List ℕ) : Type 0 where
  pub is : IsWithinText S g text
  pub stated : States text is.cert

-- The bytes are the text of the certificate that the model is unbounded, by a point that the search keeps and this ray. They read as that
-- certificate, which is accepted for the model, so that it is unbounded.
pub record IsReadUnbounded (S : PlainSearch) (ray : Point) (text : List ℕ) : Type 0 where
  pub is : IsUnboundedText S ray text
  pub stated : States text (unbounded_certificate S.model is.point ray)

-- The bytes are the text of this certificate of a front. They read as that certificate, which the checker accepts for the model, so that its
-- outcomes are the front of the model.
pub record IsReadFront (M : Program) (cert : FrontCert) (text : List ℕ) : Type 0 where
  pub is : IsFrontText M cert text
  pub stated : MeantFront text cert

-- The bytes are the text of this certificate that no point is feasible. They read as that certificate, which the checker accepts for the
-- model, so that none is.
pub record IsReadEmptiness (M : Program) (cert : Cert) (text : List ℕ) : Type 0 where
  pub is : IsEmptinessText M cert text
  pub stated : States text cert

-- the certificate of the answer that is held, by which it is; there is none without one
abbrev pub IsHeldText : PlainSearch → Held → List ℕ → Type 0
IsHeldText S Nothing text = ⊥
IsHeldText S Finished text = IsReadCertificate S text
IsHeldText S (Within g) text = IsReadWithin S g text
IsHeldText S (Unbounded ray) text = IsReadUnbounded S ray text
IsHeldText S (Front cert) text = IsReadFront S.model cert text
IsHeldText S (Infeasible cert) text = IsReadEmptiness S.model cert text

-- of the answer that is held, if there is a model
abbrev pub Certifies : Option PlainSearch → Held → ShellState → List ℕ → List ℕ → ShellState → Type 0
Certifies None held old name reply new = IsTold old no_model_text reply new
Certifies (Some S) Nothing old name reply new = IsTold old no_answer_text reply new
Certifies (Some S) Finished old name reply new = Writes (IsHeldText S Finished) name old.files old.faults reply new.files new.faults
Certifies (Some S) (Within g) old name reply new = Writes (IsHeldText S (Within g)) name old.files old.faults reply new.files new.faults
Certifies (Some S) (Unbounded ray) old name reply new = Writes (IsHeldText S (Unbounded ray)) name old.files old.faults reply new.files new.faults
Certifies (Some S) (Front cert) old name reply new = Writes (IsHeldText S (Front cert)) name old.files old.faults reply new.files new.faults
Certifies (Some S) (Infeasible cert) old name reply new = Writes (IsHeldText S (Infeasible cert)) name old.files old.faults reply new.files new.faults

-- the environment stays
pub record CertStep (old : ShellState) (name reply : List ℕ) (new : ShellState) : Type 0 where
  pub env : new.env ≡ old.env
  pub later : old.faults ≤ new.faults
  pub answer : Certifies old.env.search old.env.held old name reply new
