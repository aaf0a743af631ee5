-- `with_failed` meets its contract. Each cause has its own count. Assumes nothing.
use Rattle.report_page.proofs.CountLaws.{failed_empty, failed_upstream, failed_escape}
use Rattle.report_page.proofs.counts.with_failed.Goals as goal

pub returns-in-Empty : goal.returns-in-Empty
returns-in-Empty c = search failed_empty

pub returns-in-Upstream : goal.returns-in-Upstream
returns-in-Upstream c = search failed_upstream

pub returns-in-Escape : goal.returns-in-Escape
returns-in-Escape c = search failed_escape
