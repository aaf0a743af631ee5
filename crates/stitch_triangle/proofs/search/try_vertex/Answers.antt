-- `try_vertex` meets its contract. Assumes nothing.
use Rattle.stitch_triangle.proofs.SearchLaws.{word_fits, point_inside, name_inside, tried_not, tried_nowhere, tried_placed, pair_room}
use borrow.Author.Rules.{rules}
use Rattle.stitch_triangle.proofs.search.try_vertex.Goals as goal

pub vertex-r-requires : goal.vertex-r-requires
vertex-r-requires c = point_inside c.requires c.vertex_at-g.ensures

pub bounds-w-g : goal.bounds-w-g
bounds-w-g c = name_inside c.requires c.vertex_at-g.ensures

pub returns-in-None : goal.returns-in-None
returns-in-None c =
    tried_nowhere c.requires c.vertex_at-g.ensures _ c.vertex-r.ensures c.found_on-here.ensures c.if-here.true
    c.place_on.ensures c.in-None.is

pub overflow_add-e : goal.overflow_add-e
overflow_add-e c = let l = word_fits c.requires in search rules

pub append_pair-requires : goal.append_pair-requires
append_pair-requires c =
    pair_room c.requires c.vertex_at-g.ensures _ c.vertex-r.ensures c.found_on-here.ensures c.if-here.true
    c.place_on.ensures c.in-Some.is

pub overflow_add-result-in-Some-2 : goal.overflow_add-result-in-Some-2
overflow_add-result-in-Some-2 c =
    let r = c.requires.apart in
    let k = c.struct_known-1.given.1.1.1.1.1.1.0 in
    search rules

pub returns-in-Some : goal.returns-in-Some
returns-in-Some c =
    tried_placed c.requires c.vertex_at-g.ensures _ c.vertex-r.ensures c.found_on-here.ensures c.if-here.true
    c.place_on.ensures c.in-Some.is c.append_pair.ensures

pub returns : goal.returns
returns c =
    tried_not c.requires c.vertex_at-g.ensures _ c.vertex-r.ensures c.found_on-here.ensures c.if-here.false
