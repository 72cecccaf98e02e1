-- What the fault of a store or of a text is answered.
use Rattle.sym_io.specs.declared.traits.StoreFault.{StoreFault}
use Rattle.sym_io.specs.declared.traits.StoreFault.TheVariants as store
use Rattle.mps_model.specs.declared.reader.MpsFault.{MpsFault}
use Rattle.mps_model.specs.declared.reader.MpsFault.TheVariants as mps
use Rattle.cert_text.specs.declared.reader.CertFault.{CertFault}
use Rattle.cert_text.specs.declared.reader.CertFault.TheVariants as cert
use Rattle.command_files.specs.declared.reading.Refusal.{Refusal}
use Rattle.command_files.specs.declared.reading.Refusal.TheVariants as refusal

abbrev pub refusal_of_store : StoreFault → Refusal
refusal_of_store store.Missing = refusal.Store
refusal_of_store store.Failed = refusal.Store
refusal_of_store store.TooLong = refusal.FileTooLong
refusal_of_store store.Memory = refusal.Memory

abbrev pub refusal_of_text : MpsFault → Refusal
refusal_of_text (mps.Bad line code) = refusal.Faulty line code
refusal_of_text mps.Memory = refusal.Memory

abbrev pub refusal_of_cert : CertFault → Refusal
refusal_of_cert (cert.Bad line code) = refusal.Faulty line code
refusal_of_cert cert.Memory = refusal.Memory
