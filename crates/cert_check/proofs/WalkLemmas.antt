-- The walk: nodes with places, and the path behind a leaf.
use Rattle.std.proofs.Common.{◌≡◌, ℕ, ◌+◌, ◌<◌, List, [], ◌∷◌, ◌++◌, length, take, get_or, refl, sym, ap, subst, ◌∙◌, arith, below_more}
use Rattle.std.specs.Prelude.{pos, ◌+ℤ◌, All}
use Rattle.std.proofs.lemmas.List.{take_more, length-append, get_or_append_left}
use Rattle.std.proofs.Math.Seq.{get_or-append_seam}
use Rattle.lp_model.specs.Program.{Program}
use Rattle.lp_model.specs.Regions.{Path, at_least}
use Rattle.lp_model.specs.declared.types.Side.TheVariants.{Lo, Hi}
use Rattle.lp_model.specs.declared.types.BoundChange.{BoundChange}
use Rattle.cert_text.specs.declared.cert.CertNode.{CertNode}
use Rattle.cert_check.specs.declared.judging.NodeWithPlaces.{NodeWithPlaces}
use Rattle.cert_check.specs.Walk.{IsPlace, AreNodesPlaced, turned_change, in_front, after_leaf}
use Rattle.cert_check.specs.private.Walk.{CanTurn}

module _ (M : Program) (cuts : ℕ) (node : CertNode) (one : NodeWithPlaces) (here : IsPlace M cuts node one) where
  placed_last : (ns : List CertNode) (ps : List NodeWithPlaces) → AreNodesPlaced M cuts ns ps → AreNodesPlaced M cuts (ns ++ node ∷ []) (ps ++ one ∷ [])
  placed_last ns ps (same, each) =
      let P : ℕ → Type 0 = λ k. (n : CertNode) (p : NodeWithPlaces) → IsPlace M cuts (get_or (ns ++ node ∷ []) k n) (get_or (ps ++ one ∷ []) k p) in
      let all : (k : ℕ) → k < length ns + 1 → P k =
      below_more P (length ns)
      (λ k below n p.
      subst (λ T. T) (λ i. IsPlace M cuts (sym (get_or_append_left ns (node ∷ []) n k below) i) (sym (get_or_append_left ps (one ∷ []) p k (omega (arith, same, below))) i)) (each k n p below))
      (λ n p.
      subst (λ T. T) (λ i. IsPlace M cuts (sym (get_or-append_seam ns node [] n) i) (sym (ap (λ k. get_or (ps ++ one ∷ []) k p) (sym same) ∙ get_or-append_seam ps one [] p) i)) here) in
      let long = length-append ns (node ∷ []) in
      let long_ps = length-append ps (one ∷ []) in
      (omega (arith, same, long, long_ps), λ k n p below. all k (omega (arith, below, long)) n p)

  pub placed_more : (nodes : List CertNode) (k : ℕ) (old new : List NodeWithPlaces) → k < length nodes → node ≡ get_or nodes k node → AreNodesPlaced M cuts (take k nodes) old → new ≡ old ++ one ∷ [] → AreNodesPlaced M cuts (take (k + 1) nodes) new
  placed_more nodes k old new below is before after =
      let more : take (k + 1) nodes ≡ take k nodes ++ node ∷ [] = take_more nodes k node below ∙ ap (λ n. take k nodes ++ n ∷ []) (sym is) in
      subst (λ T. T) (λ i. AreNodesPlaced M cuts (sym more i) (sym after i)) (placed_last (take k nodes) old before)

-- ---- paths

pub after_leaf-low : (path : Path) (c : BoundChange) → c.side ≡ Lo → after_leaf (path ++ c ∷ []) ≡ after_leaf path
after_leaf-low [] c low = ap (λ s. turned_change s c) low
after_leaf-low (d ∷ path) c low = ap (in_front d) (after_leaf-low path c low)

in_front-some : (d : BoundChange) (path : Path) (c : BoundChange) → in_front d (path ++ c ∷ []) ≡ d ∷ (path ++ c ∷ [])
in_front-some d [] c = refl
in_front-some d (e ∷ path) c = refl

pub after_leaf-high : (path : Path) (c : BoundChange) → c.side ≡ Hi → after_leaf (path ++ c ∷ []) ≡ path ++ at_least c.col.0 (c.v +ℤ pos 1) ∷ []
after_leaf-high [] c high = ap (λ s. turned_change s c) high
after_leaf-high (d ∷ path) c high = ap (in_front d) (after_leaf-high path c high) ∙ in_front-some d path (at_least c.col.0 (c.v +ℤ pos 1))

pub turns-fewer : (path : Path) (c : BoundChange) → All CanTurn (path ++ c ∷ []) → All CanTurn path × CanTurn c
turns-fewer path c all =
    let long = length-append path (c ∷ []) in (
      λ k d below. subst CanTurn (get_or_append_left path (c ∷ []) d k below) (all k d (omega (arith, below, long))),
      subst CanTurn (get_or-append_seam path c [] c) (all (length path) c (omega (arith, long))),
    )
