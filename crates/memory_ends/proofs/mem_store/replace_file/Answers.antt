use Rattle.std.proofs.Common.{◌∙◌, ap, List, ℕ}
use Rattle.std.specs.FinMap.{insert}
use Rattle.std.proofs.lemmas.Map.Text.{btree_map_updates_text}
use Rattle.std.specs.Prelude.{Some}
use Rattle.std.specs.String.{string_bytes}
use Rattle.memory_ends.specs.Memory.{files_of}
use Rattle.memory_ends.proofs.FileLemmas.{put_file}
use Rattle.memory_ends.proofs.mem_store.replace_file.Goals as goal

pub returns-clause-ok : goal.returns-clause-ok
returns-clause-ok c =
    let old = c.args.files.now in
    let new = c.insert.new.self in
    let name = string_bytes c.in-Ok.name in
    let bytes = c.in-Ok-to_vec.bytes in
    put_file old.entries new.entries name bytes (btree_map_updates_text name old new (Some bytes) c.in_ok-insert.ensures.updates)
    ∙ ap (λ (n : List ℕ). insert (files_of old.entries) n bytes.items) c.in-Ok.ensures.ok
    ∙ ap (insert (files_of old.entries) c.args.name.now) (c.in-Ok-to_vec.ensures.items_if_clones_equal (λ x y e. e))
