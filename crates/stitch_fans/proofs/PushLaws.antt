-- Vertices pushed: none, one, and one list behind another. Assumes nothing.
use mathlib.Core.Path.{◌≡◌, refl, sym, ap, ◌∙◌, subst}
use Rattle.std.specs.Prelude.{Option, Some, None}
use mathlib.Core.List.{List, [], ◌∷◌, ◌++◌, append_assoc}
use Prim.Native.Nat.{ℕ, ◌+◌, ◌≤◌}
use native.Mathlib.Omega.{arith}
use lib.ListN.{length, set, length-append}
use lib.Seq.{sets, length-sets}
use Rattle.lists.specs.Sets.{three_stored}
use Rattle.stitch_fans.specs.declared.fan.Fan.{Fan}
use Rattle.stitch_rings.specs.Rings.{fan_go}
use Rattle.slice_append.specs.Appended.{Appended, appended_none, appended_sets, appended_then}
use Rattle.stitch_fans.specs.FanSteps.{PushRoom, Pushed}

-- ---- what is pushed

-- nothing
pub pushed_none : (a : ℕ) (f : Fan) (out : List ℕ) → Pushed a f [] out out f
unfolding fan_go
pushed_none a f out =
    record {
      written = appended_none f.o out;
      end_is = omega arith;
      behind = λ more. refl;
      moved = omega arith;
      long = refl;
    }

-- one list behind another
pub pushed_then : {a : ℕ} {f g h : Fan} {xs ys A B C : List ℕ} → Pushed a f xs A B g → Pushed a g ys B C h → Pushed a f (xs ++ ys) A C h
pushed_then {a} {f} {g} {h} {xs} {ys} {A} {B} {C} s t =
    record {
      written = subst (λ (v : List ℕ). Appended f.o v A C) (sym (s.behind ys)) (appended_then s.written s.end_is t.written);
      end_is = omega (arith, s.end_is, t.end_is, ap length (s.behind ys), length-append (fan_go a f.last xs) (fan_go a g.last ys));
      behind = λ more.
          ap (fan_go a f.last) (append_assoc xs ys more)
          ∙ s.behind (ys ++ more)
          ∙ ap (λ (v : List ℕ). fan_go a f.last xs ++ v) (t.behind more)
          ∙ sym (append_assoc (fan_go a f.last xs) (fan_go a g.last ys) (fan_go a h.last more))
          ∙ ap (λ (v : List ℕ). v ++ fan_go a h.last more) (sym (s.behind ys));
      moved = omega (arith, s.moved, t.moved, length-append xs ys);
      long = t.long ∙ s.long;
    }

-- the first vertex, with which nothing is written
pub pushed_first : (a : ℕ) (f : Fan) (x : ℕ) (out : List ℕ) → f.last ≡ None → Pushed a f (x ∷ []) out out (record { o = f.o; last = Some x })
unfolding fan_go
pushed_first a f x out e =
    subst (λ (l : Option ℕ). Pushed a (record { o = f.o; last = l }) (x ∷ []) out out (record { o = f.o; last = Some x })) (sym e)
    (record {
      written = appended_none f.o out;
      end_is = omega arith;
      behind = λ more. refl;
      moved = omega arith;
      long = refl;
    })

-- a vertex behind another
module _ {f : Fan} {last : ℕ} {out : List ℕ} (r : PushRoom f 1 out) (e : f.last ≡ Some last) where
  -- there is room for its triangle
  pub triangle_room : f.o + 3 ≤ length out
  triangle_room = let z : ◌≡◌ {A = ℕ} (elim f.last [ None ↦ 0 | Some x ↦ 3 ]) 3 = ap (λ (l : Option ℕ). elim l [ None ↦ 0 | Some x ↦ 3 ]) e in omega (arith, r.room, z)

  pub pushed_next : (a x : ℕ) → Pushed a f (x ∷ []) out (set (set (set out f.o a) (f.o + 1) last) (f.o + 2) x) (record { o = f.o + 3; last = Some x })
  unfolding fan_go
  pushed_next a x =
      subst (λ (v : List ℕ). Pushed a f (x ∷ []) out v (record { o = f.o + 3; last = Some x })) (sym (three_stored out f.o a last x))
      (subst
      (λ (l : Option ℕ). Pushed a (record { o = f.o; last = l }) (x ∷ []) out (sets out f.o (a ∷ last ∷ x ∷ [])) (record { o = f.o + 3; last = Some x }))
      (sym e)
      (record {
        written = appended_sets (omega (arith, triangle_room)) refl;
        end_is = omega arith;
        behind = λ more. refl;
        moved = omega arith;
        long = length-sets out f.o (a ∷ last ∷ x ∷ []);
      }))
