-- The text of a search states its data, where that is writable.
use Rattle.std.specs.Prelude.{◌≡◌, ℕ, Vec, Result, Ok, Err, IfOk}
use Rattle.std.specs.declared.alloc.AllocError.{AllocError}
use Rattle.std.specs.declared.alloc.Global.{Global}
use Rattle.std.proofs.Common.{sym, ap, subst, ◌∙◌}
use Rattle.serde_json.specs.Written.{compact_text}
use Rattle.search_data.specs.declared.data.SearchData.{SearchData}
use Rattle.sound_searches.specs.Sound.{PlainSearch}
use Rattle.search_file.specs.Saved.{saved_data}
use Rattle.search_file.specs.Files.{own_text, IsTextOf}
use Rattle.warm_file.specs.Searches.{States}
use Rattle.warm_writer.specs.Writable.{IsWritable}
use Rattle.warm_writer.specs.Written.{search_json}

module _ (S : PlainSearch) (s : SearchData) (same : s ≡ saved_data S) where
  pub own-written : (r : Result (Vec ℕ Global) AllocError) → IfOk r (λ text. text.items ≡ compact_text (search_json s)) → IfOk r (λ text. text.items ≡ own_text S)
  own-written (Ok text) h = h ∙ ap (λ d. compact_text (search_json d)) same
  own-written (Err f) h = tt

  pub states-written : (r : Result (Vec ℕ Global) AllocError) → IfOk r (λ text. text.items ≡ compact_text (search_json s)) → IfOk r (λ text. IsWritable s → States text.items s)
      → IsWritable (saved_data S) → IfOk r (λ text. IsTextOf S text.items)
  states-written (Ok text) h back writable = record {
    is = h ∙ ap (λ d. compact_text (search_json d)) same;
    states = subst (States text.items) same (back (subst IsWritable (sym same) writable));
  }
  states-written (Err f) h back writable = tt
