use Rattle.std.proofs.Common.{ℕ, ◌-◌, ◌≤◌, List}
use Rattle.reducer.specs.State.{state_of}
use Rattle.reducer.specs.Sound.{Sound}
use Rattle.reducer.proofs.Drawing.{Going}
use Rattle.reducer.proofs.running.draw_points.Given as goal

abbrev pub invariant-drawing : goal.invariant-drawing
invariant-drawing g l =
    let K = g.K.Coefficients.arithmetic l.kind in
    record {
      fewer : l.drawn ≤ l.draws;
      going : (a b : List ℕ) → Sound K a b l.initial.job → Going K a b l.draws (state_of l.initial.job) (g.S.Source.waiting l.initial.source) (state_of l.job) l.drawn (g.S.Source.waiting l.source);
      sound : (a b : List ℕ) → Sound K a b l.initial.job → Sound K a b l.job;
    }

abbrev pub decreases-drawing : goal.decreases-drawing
decreases-drawing g l = l.draws - l.drawn
