-- The share that the code tells of. Assumes nothing.
use Rattle.report_definition.specs.Page.{Share}
use Rattle.report_page.specs.declared.divisor.Share as told

-- the share that an answer tells of
abbrev pub share_in : told.Share → Share
share_in s = record { accepted = s.accepted; faces = s.faces }
