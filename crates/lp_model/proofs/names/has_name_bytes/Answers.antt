use Rattle.std.proofs.Common.{◌≡◌, ℕ, ◌+◌, ◌<◌, ◌&&◌, Bool, List, length, get_or, drop, sym, ap, ◌∙◌, arith}
use Rattle.std.specs.List.{list_all}
use Rattle.std.proofs.lemmas.List.{drop_more, drop_all}
use Rattle.lp_model.specs.Names.{is_name_byte}
use Rattle.lp_model.proofs.names.has_name_bytes.Goals as goal

next : (name : List ℕ) (k : ℕ) → k < length name → list_all is_name_byte (drop k name) ≡ (is_name_byte (get_or name k 0) && list_all is_name_byte (drop (k + 1) name))
next name k below = ap (list_all is_name_byte) (drop_more name k 0 below)

pub loop-byte-preserved : goal.loop-byte-preserved
loop-byte-preserved c =
    let name = c.args.name.now in
    let k = c.loop-byte.byte-index in
    (c.loop-byte.invariant
    ∙ next name k c.loop-byte-test.true
    ∙ ap (λ (b : Bool). b && list_all is_name_byte (drop (k + 1) name)) (sym c.is_name_byte.ensures ∙ c.if-not-is_name_byte.false))

pub returns-then-not-is_name_byte : goal.returns-then-not-is_name_byte
returns-then-not-is_name_byte c =
    let name = c.args.name.now in
    let k = c.loop-byte.byte-index in
    sym
    (c.loop-byte.invariant
    ∙ next name k c.loop-byte-test.true
    ∙ ap (λ (b : Bool). b && list_all is_name_byte (drop (k + 1) name)) (sym c.is_name_byte.ensures ∙ c.if-not-is_name_byte.true))

pub returns : goal.returns
returns c = sym (c.loop-byte.invariant ∙ ap (list_all is_name_byte) (drop_all c.loop-byte.byte-index c.args.name.now (omega (arith, c.loop-byte-test.false))))
