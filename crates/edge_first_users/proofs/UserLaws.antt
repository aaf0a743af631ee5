-- Laws of finding first users: the names stand in the work area, and were joined there. Assumes nothing.
use mathlib.Core.Path.{◌≡◌, sym, ap, ◌∙◌}
use mathlib.Core.List.{List, map}
use Prim.Native.Nat.{ℕ, ◌+◌, ◌*◌}
use native.Mathlib.Omega.{arith}
use lib.ListN.{length, take, drop, length-drop}
use lib.Seq.{sets}
use Rattle.lists.specs.Sets.{take_sets, drop_sets}
use Rattle.lists.specs.Stretches.{stretch_sets}
use Rattle.body_rows.specs.Body.{rows_of}
use Rattle.body_rows.specs.Rows.{row_at}
use Rattle.join_definition.specs.Join.{joined, JoinedAt}
use Rattle.edge_uses.specs.Named.{use_name}
use Rattle.edge_uses.specs.RowUses.{uses_all}
use Rattle.edge_uses.specs.FirstUsers.{UsersReady, FirstUsers, uses_in}
use Rattle.edge_uses.proofs.UseLaws.{length_named}

module _ {table is W X : List ℕ} {points shells at : ℕ} (r : UsersReady table is W points shells at) (named : X ≡ sets W at (map use_name (uses_in table is W points shells))) where
  names_long : length (map use_name (uses_in table is W points shells)) ≡ length is
  unfolding row_at
  names_long =
      length_named use_name (uses_in table is W points shells)
      ∙ uses_all (drop shells W) 0 (drop points W) (rows_of table) is r.names.body.whole (omega (arith, r.all)) (omega (arith, length-drop shells W, r.names.shells_apart, r.names.body.room))
      ∙ sym r.all

  -- the names stand at `at`
  named_at : take (length is) (drop at X) ≡ map use_name (uses_in table is W points shells)
  named_at = ap (λ l. take (length is) (drop at l)) named ∙ stretch_sets W at (map use_name (uses_in table is W points shells)) (length is) names_long (omega (arith, r.room))

  pub users_found : {E : List ℕ} → JoinedAt at (length is) X E → FirstUsers table is W points shells at E
  users_found j =
      record {
        names = j.names ∙ named_at;
        firsts = j.reps ∙ ap joined named_at;
        front = j.front ∙ ap (take at) named ∙ take_sets W at (map use_name (uses_in table is W points shells));
        rest = j.rest ∙ ap (drop (at + 4 * length is)) named ∙ drop_sets W at (map use_name (uses_in table is W points shells)) (at + 4 * length is) (omega (arith, names_long));
      }
