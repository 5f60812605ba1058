use Rattle.sharing.specs.Asked.{counts}
use Rattle.sharing.specs.Proportion.{pro_rata_near}
use Rattle.sharing.proofs.pro_rata.ProRataSharingRule.share.Goals as goal

pub returns-clause-near : goal.returns-clause-near
returns-clause-near c =
    rw c.divide.ensures (pro_rata_near (counts c.args.claims.now) c.args.amount.count c.args.mark c.args.guarantee.count)
