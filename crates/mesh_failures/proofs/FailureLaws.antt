-- Laws of writing the failures. Assumes nothing.
use mathlib.Core.Path.{◌≡◌, refl, sym, ap, ◌∙◌, subst}
use mathlib.Core.List.{List, [], ◌∷◌, ◌++◌, flat_map, append_assoc, append-nil}
use mathlib.Core.Option.{Option, none, some}
use Prim.Native.Nat.{ℕ, ◌+◌, ◌*◌, ◌≤◌, ◌<◌}
use native.Mathlib.Omega.{arith}
use lib.ListN.{length, get_or, drop, length-append, drop_of_length-le}
use lib.Ieee.{Float}
use Rattle.lists.specs.Lists.{written}
use Rattle.float_steps.specs.Floats.{bits64}
use Rattle.body_rows.specs.Body.{Row, Patch, rows_of, patches_of}
use Rattle.body_rows.specs.Rows.{row_at}
use Rattle.body_rows.specs.Patches.{patch_from, patch_at_lem, shapes}
use Rattle.slice_append.specs.Appended.{Appended, appended_none, appended_written, appended_long, behind}
use Rattle.patch_geometry.specs.declared.Aabb.{Aabb}
use Rattle.mesh_verdicts.specs.declared.Failure.{Failure}
use Rattle.mesh_verdicts.specs.declared.Failure.TheVariants.{Empty, Upstream, Escape}
use Rattle.mesh_verdicts.specs.Failures.{failure_of}
use Rattle.mesh_acceptance.specs.Acceptance.{failure_width, Failed, failure_numbers}
use Rattle.mesh_acceptance.specs.Judged.{failed_by, failed_of, FailureReady, FailureWritten, FailuresReady, FailuresWritten}
use Rattle.mesh_acceptance.specs.JudgedLaws.{failed_few}
use Rattle.mesh_acceptance.specs.RestLaws.{rest_of, rest_here}
use Rattle.mesh_acceptance.specs.RowStarts.{AtRow, at_first, at_next, vertices_in, indices_in}

-- ---- one failure

module _ {o face bin : ℕ} {F G : List ℕ} {f : Failure} where
  -- a patch without triangles
  pub put_empty : f ≡ Empty → Appended o (face ∷ bin ∷ 0 ∷ 0 ∷ 0 ∷ []) F G → Appended o (failure_numbers (record { face = face; bin = bin; failure = f })) F G
  unfolding failure_numbers
  put_empty e a = subst (λ (g : Failure). Appended o (failure_numbers (record { face = face; bin = bin; failure = g })) F G) (sym e) a

  -- an upstream failure
  pub put_upstream : {n : ℕ} → f ≡ Upstream n → Appended o (face ∷ bin ∷ n ∷ 0 ∷ 0 ∷ []) F G → Appended o (failure_numbers (record { face = face; bin = bin; failure = f })) F G
  unfolding failure_numbers
  put_upstream e a = subst (λ (g : Failure). Appended o (failure_numbers (record { face = face; bin = bin; failure = g })) F G) (sym e) a

  -- an escape
  pub put_escape : {reach span : Float} {r s : ℕ} → f ≡ Escape reach span → r ≡ bits64 reach → s ≡ bits64 span → Appended o (face ∷ bin ∷ 256 ∷ r ∷ s ∷ []) F G
      → Appended o (failure_numbers (record { face = face; bin = bin; failure = f })) F G
  unfolding failure_numbers
  put_escape e p q a = subst (λ (g : Failure). Appended o (failure_numbers (record { face = face; bin = bin; failure = g })) F G) (sym e)
      (subst (λ (xs : List ℕ). Appended o xs F G) (λ j. face ∷ bin ∷ 256 ∷ p j ∷ q j ∷ []) a)

-- five numbers for each
five_numbers : (face bin : ℕ) (g : Failure) → length (failure_numbers (record { face = face; bin = bin; failure = g })) ≡ failure_width
unfolding failure_numbers
five_numbers face bin Empty = refl
five_numbers face bin (Upstream n) = refl
five_numbers face bin (Escape r s) = refl

-- `failure_width` for each of some
pub failures_long : (fs : List Failed) → length (flat_map failure_numbers fs) ≡ failure_width * length fs
unfolding flat_map
failures_long [] = refl
failures_long (f ∷ fs) = let e = failures_long fs in omega (arith, length-append (failure_numbers f) (flat_map failure_numbers fs), five_numbers f.face f.bin f.failure)

-- ---- a row's failure

module _ {box : Aabb} {p : Patch} {j : ℕ} {F : List ℕ} where
  -- an accepted patch has none
  pub failure_none : none ≡ failure_of box p → FailureWritten box p j F F j
  unfolding failed_of failed_by flat_map
  failure_none e =
      let q : failed_of box p ≡ [] = ap (λ (o : Option Failure). failed_by o p.row.face p.row.bin) (sym e) in
      record {
        numbers = subst (λ (fs : List Failed). Appended (failure_width * j) (flat_map failure_numbers fs) F F) (sym q) (appended_none (failure_width * j) F);
        count = omega (arith, ap length q);
      }

  -- another has one
  pub failure_one : {f : Failure} {face bin : ℕ} {G : List ℕ} → some f ≡ failure_of box p → face ≡ p.row.face → bin ≡ p.row.bin
      → Appended (failure_width * j) (failure_numbers (record { face = face; bin = bin; failure = f })) F G
      → FailureWritten box p j F G (j + 1)
  unfolding failed_of failed_by flat_map
  failure_one {f} {face} {bin} {G} e h b a =
      let q : failed_of box p ≡ record { face = face; bin = bin; failure = f } ∷ [] = (λ j. failed_by (sym e j) (sym h j) (sym b j)) in
      record {
        numbers = subst (λ (fs : List Failed). Appended (failure_width * j) (flat_map failure_numbers fs) F G) (sym q)
            (subst (λ (xs : List ℕ). Appended (failure_width * j) xs F G) (sym (append-nil (failure_numbers (record { face = face; bin = bin; failure = f })))) a);
        count = omega (arith, ap length q);
      }

-- ---- all failures

-- the failures of the rows before row k are written, j of them: F became G
pub record Failing (table : List ℕ) (ps : List Float) (is : List ℕ) (box : Aabb) (F : List ℕ) (j base i k : ℕ) (G : List ℕ) : Type 0 where
  pub here : AtRow table base i k
  pub done : List Failed
  pub are : done ++ flat_map (failed_of box) (rest_of table ps [] is k base i) ≡ flat_map (failed_of box) (shapes table ps is)
  pub many : length done ≡ j
  pub few : j ≤ k
  pub put : Appended 0 (flat_map failure_numbers done) F G
  pub long : length G ≡ length F

numbers_both : (xs ys : List Failed) → flat_map failure_numbers (xs ++ ys) ≡ flat_map failure_numbers xs ++ flat_map failure_numbers ys
unfolding flat_map
numbers_both [] ys = refl
numbers_both (x ∷ xs) ys = ap (λ (ns : List ℕ). failure_numbers x ++ ns) (numbers_both xs ys) ∙ sym (append_assoc (failure_numbers x) (flat_map failure_numbers xs) (flat_map failure_numbers ys))

module _ {table : List ℕ} {ps : List Float} {is : List ℕ} {box : Aabb} {F : List ℕ} where
  -- none is written yet
  pub failing_none : Failing table ps is box F 0 0 0 0 F
  unfolding flat_map
  failing_none = record { here = at_first table; done = []; are = refl; many = refl; few = omega arith; put = appended_none 0 F; long = refl }

  module _ {W : List ℕ} {at : ℕ} (g : FailuresReady table ps is box W at F) {j base i k : ℕ} {G : List ℕ} (c : Failing table ps is box F j base i k G) (l : k < length (rows_of table)) where
    -- what writing row k's failure asks
    pub failing_ready : {d : ℕ} → d ≡ get_or W (at + k) 0 → FailureReady table ps is box k base i d G j
    unfolding row_at
    failing_ready {d} e =
        record {
          judgeable = record {
            row = l;
            positions_in = omega (arith, g.all_positions, vertices_in c.here l);
            indices_in = omega (arith, g.all_indices_lem, indices_in c.here l);
          };
          other = λ n. sym (ap (failure_of box) (patch_at_lem (rows_of table) ps [] is k l ∙ (λ x. patch_from (row_at table k) ps [] is (sym c.here.at_v x) (sym c.here.at_i x))))
              ∙ g.others k l (λ z. n (e ∙ z));
          room = omega (arith, g.room, c.few, c.long);
        }

    -- it is written
    pub failing_more : {r vertices indices : ℕ} {H : List ℕ} → FailureWritten box (patch_from (row_at table k) ps [] is base i) j G H r → vertices ≡ (row_at table k).vertices
        → indices ≡ (row_at table k).indices
        → Failing table ps is box F r (base + vertices) (i + indices) (k + 1) H
    unfolding flat_map
    failing_more {r} {vertices} {indices} {H} w v n =
        let p = patch_from (row_at table k) ps [] is base i in
        let fs = failed_of box p in
        let few = failed_few box p in
        record {
          here = at_next c.here l v n;
          done = c.done ++ fs;
          are =
              append_assoc c.done fs (flat_map (failed_of box) (rest_of table ps [] is (k + 1) (base + vertices) (i + indices)))
              ∙ (λ x. c.done ++ (fs ++ flat_map (failed_of box) (rest_of table ps [] is (k + 1) (base + v x) (i + n x))))
              ∙ ap (λ (qs : List Patch). c.done ++ flat_map (failed_of box) qs) (sym (rest_here table ps [] is k base i l))
              ∙ c.are;
          many = omega (arith, length-append c.done fs, c.many, w.count);
          few = omega (arith, w.count, few, c.few);
          put = subst (λ (xs : List ℕ). Appended 0 xs F H) (sym (numbers_both c.done fs)) (behind c.put (failures_long c.done ∙ ap (λ (x : ℕ). failure_width * x) c.many) w.numbers);
          long = appended_long w.numbers (omega (arith, failures_long fs, few, g.room, c.few, c.long)) ∙ c.long;
        }

  -- all are
  pub failing_all : {j base i k : ℕ} {G : List ℕ} → Failing table ps is box F j base i k G → length (rows_of table) ≤ k → FailuresWritten table ps is box F G j
  unfolding patches_of flat_map
  failing_all {j} {base} {i} {k} {G} c l =
      let none_left : flat_map (failed_of box) (rest_of table ps [] is k base i) ≡ [] =
      ap (λ (rows : List Row). flat_map (failed_of box) (patches_of rows (drop (3 * base) ps) (drop (3 * base) []) (drop i is))) (drop_of_length-le (rows_of table) l) in
      let e : c.done ≡ flat_map (failed_of box) (shapes table ps is) = sym (append-nil c.done) ∙ ap (λ (fs : List Failed). c.done ++ fs) (sym none_left) ∙ c.are in
      record {
        numbers = appended_written c.put ∙ ap (λ (fs : List Failed). written (flat_map failure_numbers fs) F) e;
        count = sym c.many ∙ ap length e;
      }
