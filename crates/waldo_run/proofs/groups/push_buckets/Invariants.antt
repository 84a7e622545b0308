use Rattle.std.proofs.Common.{◌≡◌, ◌++◌, drop}
use Rattle.waldo_run.specs.Buckets.{bucket_lines}
use Rattle.waldo_run.proofs.groups.push_buckets.Given as goal

-- the lines so far and those of the buckets that are left are those of all
abbrev pub invariant-loop-bucket : goal.invariant-loop-bucket
invariant-loop-bucket l =
    l.report ++ bucket_lines l.index l.rows l.aggregate l.bucket (drop l.bucket l.answers)
    ≡ l.fn.report ++ bucket_lines l.index l.rows l.aggregate 0 l.answers
