-- The groups of a body: their rows, their colours, and what turn leaves of them. Assumes nothing.
use Rattle.std.specs.Prelude.{◌≡◌, ℕ, zero, suc, ◌+◌, ◌≤◌, ◌<◌, Bool, not, ◌||◌, cond, T, eqb, length}
use Rattle.std.proofs.Math.Path.{refl, subst}
use Rattle.std.proofs.Common.{sym, ap, ◌∙◌, add-zero, zero-add, eqb→eq}
use mathlib.Core.List.{List, [], ◌∷◌, map}
use native.Mathlib.Omega.{arith}
use Rattle.std.proofs.Math.Bool.{true, false}
use Rattle.std.proofs.Math.ListN.{get_or, set, length-replicate}
use Rattle.body_rows.specs.Body.{Patch}
use Rattle.patch_geometry.specs.Geometry.{zero64}
use Rattle.turn_definition.specs.Groups.{Walks, Group, add_group, walks_from}
use Rattle.turn_definition.specs.Inversion.{patch_at, volume_from, inverts}
use Rattle.turn_definition.specs.Orient.{walks_of}
use Rattle.turn_walk.specs.Walk.{Pair, Walk, unvisited, plain, opposite, walk, inverted}
use Rattle.turn_volume_rule.specs.Sign as Sign
use Rattle.turn_volume_rule.specs.Sign.{All, Settled}
use Rattle.turn_volume_rule.specs.Pairs.{all_append, all_map, Each, last, then, Ends, uses_each, pairs_ends}
use Rattle.turn_volume_rule.specs.Walks.{two_opposite, two_pos, Found, Walking, walk_walking, start_walking, length_inverted, inverted_other, inverted_rows}

-- a row with triangles
pub record Taking (patches : List Patch) (n : ℕ) : Type 0 where
  pub row : n < length patches
  pub some : 0 < length (patch_at patches n).indices

record Slot (all ps : List Patch) (n k : ℕ) : Type 0 where
  row : n + k < length all
  same : patch_at all (n + k) ≡ patch_at ps k

each_from : (all ps : List Patch) (n : ℕ) → ((k : ℕ) → k < length ps → Slot all ps n k) → Each (Taking all) n ps
unfolding patch_at
each_from all [] n h = last
each_from all (p ∷ ps) n h = then (here (h 0 (omega arith))) (each_from all ps (suc n) (λ k l. there k (h (suc k) (omega arith))))
  where
    here : Slot all (p ∷ ps) n 0 → 0 < length p.indices → Taking all n
    here s l =
        let e : patch_at all n ≡ p = ap (λ (k : ℕ). patch_at all k) (sym (add-zero n)) ∙ s.same in
        record { row = omega (arith, s.row); some = subst (λ (q : Patch). 0 < length q.indices) (sym e) l }

    there : (k : ℕ) → Slot all (p ∷ ps) n (suc k) → Slot all ps (suc n) k
    there k s =
        let e : n + suc k ≡ suc n + k = omega arith in
        record { row = omega (arith, s.row); same = ap (λ (j : ℕ). patch_at all j) (sym e) ∙ s.same }

pub each_row : (patches : List Patch) → Each (Taking patches) 0 patches
each_row patches = each_from patches patches 0 (λ k l. record { row = omega arith; same = ap (λ (j : ℕ). patch_at patches j) (zero-add k) })

-- ---- a group, and the colours at the end
pub record GroupOk (patches : List Patch) (final : List ℕ) (g : Group) : Type 0 where
  pub rows : List ℕ
  pub cols : List ℕ
  pub is : g ≡ record { rows = rows; colours = map (λ n. get_or cols n unvisited) rows; volume = volume_from patches cols zero64 rows }
  pub settled : All (Settled patches cols final (inverts patches cols rows (volume_from patches cols zero64 rows))) rows
  pub taking : All (Taking patches) rows
  pub few : length rows ≤ length patches

settled_pos : (patches : List Patch) (cols final : List ℕ) (flip : Bool) (n : ℕ) → Settled patches cols final flip n → 0 < get_or final n unvisited
settled_pos patches cols final flip n s = subst (λ (k : ℕ). 0 < k) (sym s.left) (go flip)
  where
    go : (b : Bool) → 0 < cond b (opposite (get_or cols n unvisited)) (get_or cols n unvisited)
    go true = two_pos _ (two_opposite (get_or cols n unvisited) s.two)
    go false = two_pos _ s.two

keep : (patches : List Patch) (final final' : List ℕ) → ((n : ℕ) → 0 < get_or final n unvisited → get_or final' n unvisited ≡ get_or final n unvisited) → (g : Group) → GroupOk patches final g
    → GroupOk patches final' g
keep patches final final' k g o = record {
  rows = o.rows;
  cols = o.cols;
  is = o.is;
  settled = all_map (λ n s. record { row = s.row; two = s.two; left = k n (settled_pos patches o.cols final _ n s) ∙ s.left }) o.settled;
  taking = o.taking;
  few = o.few;
}

pub record State (patches : List Patch) (s : Walks) : Type 0 where
  pub size : length s.colours ≡ length patches
  pub groups : All (GroupOk patches s.colours) s.groups

module _ (patches : List Patch) where
  abbrev in_range : (n : ℕ) → Taking patches n → n < length patches
  in_range n t = t.row

  module _ (before : List ℕ) (w : Walk) (g : Walking (Taking patches) (length patches) in_range before w) where
    end : Bool → List ℕ
    end b = cond b (inverted w.rows w.colours) w.colours

    end_size : (b : Bool) → length (end b) ≡ length patches
    unfolding end
    end_size true = length_inverted w.rows w.colours ∙ g.size
    end_size false = g.size

    end_kept : (b : Bool) (n : ℕ) → 0 < get_or before n unvisited → get_or (end b) n unvisited ≡ get_or before n unvisited
    unfolding end
    end_kept false n h = g.others n h
    end_kept true n h = inverted_other w.rows w.colours n (all_map (λ k f e. no k f.new (ap (λ (j : ℕ). get_or before j unvisited) e)) g.rows) ∙ g.others n h
      where
        no : (k : ℕ) → get_or before k unvisited ≡ 0 → get_or before k unvisited ≡ get_or before n unvisited → ⊥
        no k a b = omega arith

    zip : (rows : List ℕ) (cols final : List ℕ) → All (Found (Taking patches) (length patches) in_range before cols) rows → All (λ n. get_or final n unvisited ≡ opposite (get_or cols n unvisited)) rows
        → All (Settled patches cols final true) rows
    zip [] cols final a b = Sign.none
    zip (n ∷ ns) cols final (Sign.more f a) (Sign.more e b) = Sign.more (record { row = f.is.row; two = f.two; left = e }) (zip ns cols final a b)

    end_settled : (b : Bool) → All (Settled patches w.colours (end b) b) w.rows
    unfolding end
    end_settled false = all_map (λ n f. record { row = f.is.row; two = f.two; left = refl }) g.rows
    end_settled true = zip w.rows w.colours (inverted w.rows w.colours) g.rows
        (inverted_rows w.rows w.colours g.distinct (all_map (λ n f. subst (λ (k : ℕ). n < k) (sym g.size) f.is.row) g.rows))

    add_state : (groups : List Group) → All (GroupOk patches before) groups → State patches (add_group patches groups w)
    unfolding end add_group
    add_state groups o =
        let v = volume_from patches w.colours zero64 w.rows in
        let b = inverts patches w.colours w.rows v in
        record {
          size = end_size b;
          groups = all_append (all_map (keep patches before (end b) (end_kept b)) o)
              (Sign.more (record { rows = w.rows; cols = w.colours; is = refl; settled = end_settled b; taking = all_map (λ n f. f.is) g.rows; few = omega (arith, g.count) }) Sign.none);
        }

  from_state : (pairs : List Pair) → All (Ends (Taking patches)) pairs → (n : ℕ) (rest : List Patch) (s : Walks) → Each (Taking patches) n rest → State patches s
      → State patches (walks_from patches pairs n rest s)
  unfolding walks_from
  from_state pairs e n [] s c g = g
  from_state pairs e n (p ∷ rest) s (then h c) g =
      go (eqb (length p.indices) 0) (eqb (get_or s.colours n unvisited) unvisited) (eqb_refl' (length p.indices)) (eqb→eq (get_or s.colours n unvisited) unvisited)
      (from_state pairs e (suc n) rest s c g)
      (λ t z. from_state pairs e (suc n) rest next c (add_state s.colours begun (walked t z) s.groups g.groups))
    where
      begun : Walk
      begun = walk pairs (length patches) 0 (record { rows = n ∷ []; colours = set s.colours n plain; against = s.against })

      walked : Taking patches n → get_or s.colours n unvisited ≡ 0 → Walking (Taking patches) (length patches) in_range s.colours begun
      walked t z = walk_walking (Taking patches) (length patches) in_range s.colours pairs (length patches) 0 (record { rows = n ∷ []; colours = set s.colours n plain; against = s.against }) e
          (start_walking (Taking patches) (length patches) in_range s.colours n s.against g.size t z)

      next : Walks
      next = add_group patches s.groups begun

      pick : Bool → Walks
      pick b = elim b [ true ↦ walks_from patches pairs (suc n) rest s | false ↦ walks_from patches pairs (suc n) rest next ]

      eqb_refl' : (k : ℕ) → T (not (eqb k 0)) → 0 < k
      eqb_refl' zero l = absurd l
      eqb_refl' (suc k) l = omega arith

      go : (a b : Bool) → (T (not a) → 0 < length p.indices) → (T b → get_or s.colours n unvisited ≡ 0)
          → State patches (walks_from patches pairs (suc n) rest s) → (Taking patches n → get_or s.colours n unvisited ≡ 0 → State patches (walks_from patches pairs (suc n) rest next))
          → State patches (pick (a || not b))
      go true b x y k l = k
      go false false x y k l = k
      go false true x y k l = l (h (x tt)) (y tt)

  pub groups_ok : (names : List ℕ) → State patches (walks_of patches names)
  unfolding walks_of
  groups_ok names =
      from_state _ (pairs_ends (Taking patches) _ (uses_each (Taking patches) (λ r. r.shell) 0 names patches (each_row patches))) 0 patches _ (each_row patches)
      (record { size = length-replicate (length patches) unvisited; groups = Sign.none })
