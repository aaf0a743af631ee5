-- A tree of boxes whose words are kept. Assumes nothing.
use Rattle.std.specs.Prelude.{◌≡◌, List, ℕ, ◌+◌, ◌*◌, ◌/◌, ◌^◌, ◌<◌, ◌≤◌, get_or, Float}
use Rattle.std.proofs.Common.{sym, subst, arith}
use Rattle.float_steps.specs.Floats.{f64}
use Rattle.stitch_boxes.specs.declared.Bounds.{Bounds}
use Rattle.stitch_boxes.specs.Boxes.{Within}
use Rattle.stitch_boxes.specs.Points.{BoxEnds}
use Rattle.stitch_tree.specs.Nodes.{point_of, box_at}
use Rattle.stitch_tree.specs.Trees.{Boxed}

-- a box whose words are kept
pub box_kept : (k : ℕ) (W E : List ℕ) → ((j : ℕ) → k ≤ j → get_or E j 0 ≡ get_or W j 0) → box_at E k ≡ box_at W k
box_kept k W E e = λ i. record {
  x = record { low = f64 (e k (omega arith) i); high = f64 (e (k + 1) (omega arith) i) };
  y = record { low = f64 (e (k + 2) (omega arith) i); high = f64 (e (k + 2 + 1) (omega arith) i) };
  z = record { low = f64 (e (k + 4) (omega arith) i); high = f64 (e (k + 4 + 1) (omega arith) i) };
}

-- the tree is kept with its words and all from its boxes on
pub boxed_kept : {ps : List Float} {order n boxes top : ℕ} {W E : List ℕ} → Boxed ps order n boxes top W → ((j : ℕ) → j < n → get_or E (order + j) 0 ≡ get_or W (order + j) 0)
    → ((k : ℕ) → boxes ≤ k → get_or E k 0 ≡ get_or W k 0) → Boxed ps order n boxes top E
boxed_kept {ps} {order} {n} {boxes} {top} {W} {E} b words rest =
    let box : (k : ℕ) → box_at E (boxes + 6 * k) ≡ box_at W (boxes + 6 * k) = λ k. box_kept (boxes + 6 * k) W E (λ j h. rest j (omega arith)) in
    record {
      few = b.few;
      ends = λ k l h. subst BoxEnds (sym (box k)) (b.ends k l h);
      holds = λ j h l m.
          subst (λ (x : Bounds). Within x (point_of ps (get_or E (order + j) 0))) (sym (box ((2 ^ top + j / 8) / 2 ^ h)))
          (subst (λ (o : ℕ). Within (box_at W (boxes + 6 * ((2 ^ top + j / 8) / 2 ^ h))) (point_of ps o)) (sym (words j l)) (b.holds j h l m));
    }
