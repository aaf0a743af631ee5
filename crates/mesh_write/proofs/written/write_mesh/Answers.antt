-- `write_mesh` meets its contract. What was written is the mesh that is counted. Assumes nothing.
use native.Mathlib.Omega.{arith}
use Rattle.mesh_write.proofs.MeshLaws.{vertices_low, indices_low, vertices_ready, tables_ready, count_ready, parts_low, ranges_low, failures_low, mesh_written}
use Rattle.mesh_write.proofs.written.write_mesh.Goals as goal

pub write_vertices-requires : goal.write_vertices-requires
write_vertices-requires c = let g = c.requires in vertices_ready g g.decided.passed.all_positions g.positions_room

pub write_vertices-requires-2 : goal.write_vertices-requires-2
write_vertices-requires-2 c = let g = c.requires in vertices_ready g g.decided.passed.all_normals g.normals_room

pub write_tables-b-requires : goal.write_tables-b-requires
write_tables-b-requires c = tables_ready c.requires

pub count_mesh-c-requires : goal.count_mesh-c-requires
count_mesh-c-requires c = count_ready c.requires c.write_vertices.ensures c.write_vertices-2.ensures c.write_tables-b.ensures (omega arith) (omega arith)

pub overflow_cast-result : goal.overflow_cast-result
overflow_cast-result c = omega (arith, vertices_low c.requires)

pub overflow_cast-result-2 : goal.overflow_cast-result-2
overflow_cast-result-2 c = omega (arith, indices_low c.requires)

pub overflow_cast-result-3 : goal.overflow_cast-result-3
overflow_cast-result-3 c = omega (arith, parts_low c.requires c.write_vertices.ensures c.write_vertices-2.ensures c.write_tables-b.ensures)

pub overflow_cast-result-4 : goal.overflow_cast-result-4
overflow_cast-result-4 c = omega (arith, ranges_low c.requires c.write_vertices.ensures c.write_vertices-2.ensures c.write_tables-b.ensures)

pub overflow_cast-result-5 : goal.overflow_cast-result-5
overflow_cast-result-5 c = omega (arith, failures_low c.requires c.write_vertices.ensures c.write_vertices-2.ensures c.write_tables-b.ensures)

pub shape_of-mesh_positions : goal.shape_of-mesh_positions
shape_of-mesh_positions c = omega (arith, c.mesh_positions-1.given)

pub shape_of-mesh_normals : goal.shape_of-mesh_normals
shape_of-mesh_normals c = omega (arith, c.mesh_normals-1.given)

pub returns : goal.returns
returns c = mesh_written c.requires c.write_vertices.ensures c.write_vertices-2.ensures c.write_tables-b.ensures c.count_mesh-c.ensures
