-- `page_with` meets its contract. The page has room for a body within the limits. Assumes nothing.
use native.Mathlib.Omega.{arith}
use Rattle.report_page.proofs.PageLaws.{page_room, page_made}
use Rattle.report_page.proofs.page.page_with.Goals as goal

pub overflow_add-accepted : goal.overflow_add-accepted
overflow_add-accepted c = omega (arith, (page_room c.requires).accepted)

pub overflow_add-failed : goal.overflow_add-failed
overflow_add-failed c = omega (arith, (page_room c.requires).failed)

pub overflow_add-accepted-2 : goal.overflow_add-accepted-2
overflow_add-accepted-2 c = omega (arith, (page_room c.requires).all)

pub overflow_add-result : goal.overflow_add-result
overflow_add-result c = omega (arith, (page_room c.requires).bodies)

pub overflow_add-result-2 : goal.overflow_add-result-2
overflow_add-result-2 c = omega (arith, (page_room c.requires).triangles)

pub overflow_add-result-3 : goal.overflow_add-result-3
overflow_add-result-3 c = omega (arith, (page_room c.requires).vertices)

pub overflow_add-result-4 : goal.overflow_add-result-4
overflow_add-result-4 c = omega (arith, (page_room c.requires).empty)

pub overflow_add-result-5 : goal.overflow_add-result-5
overflow_add-result-5 c = omega (arith, (page_room c.requires).upstream)

pub overflow_add-result-6 : goal.overflow_add-result-6
overflow_add-result-6 c = omega (arith, (page_room c.requires).escaped)

pub overflow_add-result-7 : goal.overflow_add-result-7
overflow_add-result-7 c = omega (arith, (page_room c.requires).listed)

pub returns : goal.returns
returns c =
    page_made c.args.page
    _ _ _ _ c.share_of-share.ensures
