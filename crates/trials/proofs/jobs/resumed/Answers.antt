-- `trials::jobs::resumed` meets its contract, since the job resumed from the numbers that pausing gives is the job paused.
-- Assumes nothing.
use Rattle.std.proofs.Common.{◌≡◌, Ok, refl, sym, ◌∙◌}
use Rattle.job.specs.Calls.{RoundTrip}
use Rattle.job.proofs.Fits.{round_trip}
use Rattle.trials.proofs.jobs.resumed.Goals as goal

pub returns : goal.returns
unfolding RoundTrip
returns c = λ j e.
    let back = (round_trip c.args.job c.pause.result c.in_ok-pause.field-0 c.args.job.kind c.resume.result c.pause.ensures c.in_ok-pause.was c.resume.ensures).0 refl in
    let same : Ok j ≡ Ok c.args.job = sym e ∙ back in
    cc
