use Rattle.std.proofs.Common.{refl}
use Rattle.job.proofs.Same.{same_view, row_back}
use Rattle.job.proofs.job.Job.place.Goals as goal

pub returns : goal.returns
returns g c =
    let few = g.met.A.Augmenter.dim_fits c.args.self.now.below in
    record {
      below = refl;
      after = same_view _ _ _ _ _ _ _ _ _ _ _ _ _ _ refl refl (row_back _ c.args.point.now _ _ few c.requires c.padded-self.ensures) refl refl refl refl;
    }
