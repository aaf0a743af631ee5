-- `passes_limit` meets its contract. Assumes nothing.
use Rattle.sheet_line_refusals.proofs.OrderLaws.{limit_free, limit_material, limit_opens, limit_triangle, limit_vertex}
use borrow.Author.Rules.{rules}
use Rattle.sheet_line_refusals.proofs.passes_limit.Goals as goal

pub returns-in-Box : goal.returns-in-Box
returns-in-Box c = search (rules, limit_free)

pub returns-in-Material : goal.returns-in-Material
returns-in-Material c = search (rules, limit_material)

pub returns-in-Vertex : goal.returns-in-Vertex
returns-in-Vertex c = search (rules, limit_vertex)

pub returns-in-Triangle : goal.returns-in-Triangle
returns-in-Triangle c = search (rules, limit_triangle)

pub returns-in-Face : goal.returns-in-Face
returns-in-Face c = search (rules, limit_opens)
