-- `write_tables` meets its contract. Runs, ranges and failures follow one another; each leaves the decisions as they were. Assumes nothing.
use Rattle.mesh_tables.proofs.TableLaws.{runs_ready, ranges_ready, failures_ready, tables_written}
use Rattle.mesh_tables.proofs.write_tables.Goals as goal

pub write_runs-p-requires : goal.write_runs-p-requires
write_runs-p-requires c = runs_ready c.requires

pub write_ranges-r-requires : goal.write_ranges-r-requires
write_ranges-r-requires c = ranges_ready c.requires c.write_runs-p.ensures

pub write_failures-f-requires : goal.write_failures-f-requires
write_failures-f-requires c = failures_ready c.requires c.write_runs-p.ensures

pub returns : goal.returns
returns c = tables_written c.requires c.write_runs-p.ensures c.write_ranges-r.ensures c.write_failures-f.ensures
