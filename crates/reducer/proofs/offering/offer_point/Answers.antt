use Rattle.std.proofs.Common.{◌≡◌, length, arith, rules}
use Rattle.reducer.proofs.Offers.{counts_of, void_offered, full_offered, late_offered, foreign_offered, repeated_offered, vanishing_offered, high_offered, stuck_offered}
use Rattle.reducer.proofs.Sounds.{gathering_sound}
use Rattle.reducer.proofs.offering.offer_point.Goals as goal

pub returns-in-Void-default : goal.returns-in-Void-default
returns-in-Void-default g c a b sound = void_offered (g.met.K.Coefficients.laws c.args.kind.now) a b c.args.job.now c.args.point sound _ c.in-Void-default.ensures

pub returns-in-Full-default : goal.returns-in-Full-default
returns-in-Full-default g c a b sound =
    let long : length c.args.job.now.points ≡ 31 = search rules in
    let told = c.in-Full-default.ensures in
    full_offered (g.met.K.Coefficients.laws c.args.kind.now) a b c.args.job.now c.args.point sound told.0 told.1 c.args.job.now.counts (counts_of c.args.job.now (omega arith))

pub returns-in-Settled-default : goal.returns-in-Settled-default
returns-in-Settled-default g c a b sound =
    let told = c.in-Settled-default.ensures in
    late_offered (g.met.K.Coefficients.laws c.args.kind.now) a b c.args.job.now c.args.point sound c.count.new.job c.count.ensures.kept told.0 told.1 c.count.ensures.state

pub returns-in-Gathering-Foreign : goal.returns-in-Gathering-Foreign
returns-in-Gathering-Foreign g c a b sound =
    let told = c.in-Gathering-Foreign.ensures in
    foreign_offered (g.met.K.Coefficients.laws c.args.kind.now) a b c.args.job.now c.args.point sound c.count-in-Gathering-Foreign.new.job c.count-in-Gathering-Foreign.ensures.kept told.0 told.1
    (rw c.in-Gathering-Foreign.is-1 at c.class_of-class.ensures) c.count-in-Gathering-Foreign.ensures.state

pub returns-in-Gathering-Repeated : goal.returns-in-Gathering-Repeated
returns-in-Gathering-Repeated g c a b sound =
    let told = c.in-Gathering-Repeated.ensures in
    repeated_offered (g.met.K.Coefficients.laws c.args.kind.now) a b c.args.job.now c.args.point sound c.count-in-Gathering-Repeated.new.job c.count-in-Gathering-Repeated.ensures.kept told.0 told.1
    (rw c.in-Gathering-Repeated.is-1 at c.class_of-class.ensures) c.count-in-Gathering-Repeated.ensures.state

pub returns-in-Gathering-Vanishing : goal.returns-in-Gathering-Vanishing
returns-in-Gathering-Vanishing g c a b sound =
    let told = c.in-Gathering-Vanishing.ensures in
    vanishing_offered (g.met.K.Coefficients.laws c.args.kind.now) a b c.args.job.now c.args.point sound c.count-in-Gathering-Vanishing.new.job c.count-in-Gathering-Vanishing.ensures.kept told.0 told.1
    (rw c.in-Gathering-Vanishing.is-1 at c.class_of-class.ensures) c.count-in-Gathering-Vanishing.ensures.state

pub returns-in-Gathering-High : goal.returns-in-Gathering-High
returns-in-Gathering-High g c a b sound =
    let told = c.in-Gathering-High.ensures in
    high_offered (g.met.K.Coefficients.laws c.args.kind.now) a b c.args.job.now c.args.point sound c.count-in-Gathering-High.new.job c.count-in-Gathering-High.ensures.kept told.0 told.1 c.in-Gathering-High.degree
    (rw c.in-Gathering-High.is-1 at c.class_of-class.ensures) c.count-in-Gathering-High.ensures.state

pub returns-in-Gathering-Fitting : goal.returns-in-Gathering-Fitting
returns-in-Gathering-Fitting g c a b sound =
    let K = g.K.Coefficients.arithmetic c.args.kind.now in
    let told = c.in-Gathering-Fitting.ensures in
    let gathers = gathering_sound K a b c.args.job.now told.0 sound in
    let class = (rw c.in-Gathering-Fitting.is-1 at c.class_of-class.ensures) in
    c.hold.ensures a b (record { standing = told.0; gathers = gathers; fresh = class.0; low = class.1; images = class.2 a b gathers.workings class.0.element })

pub returns-in-Gathering-Stuck : goal.returns-in-Gathering-Stuck
returns-in-Gathering-Stuck g c a b sound =
    let told = c.in-Gathering-Stuck.ensures in
    stuck_offered (g.met.K.Coefficients.laws c.args.kind.now) a b c.args.job.now c.args.point sound c.make_void.new.job c.in-Gathering-Stuck.fault c.make_void.result told.0 told.1
    (rw c.in-Gathering-Stuck.is-1 at c.class_of-class.ensures) c.make_void.ensures.answer c.make_void.ensures.state c.make_void.ensures.standing
