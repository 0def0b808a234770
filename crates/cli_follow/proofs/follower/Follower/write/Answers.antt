use Rattle.cli_follow.proofs.Writes.{wrote, fronts}
use Rattle.cli_follow.proofs.follower.Follower.write.Goals as goal

pub returns-in-Some-clause-whole : goal.returns-in-Some-clause-whole
returns-in-Some-clause-whole g c =
    wrote c.write.result c.args.self.now.nft c.in-Some.nft c.write.new.self c.args.self.now.followed c.args.self.now.has_begun _ _
    c.in-Some.is c.write.ensures.members c.write.ensures.whole

pub returns-in-Some-clause-front : goal.returns-in-Some-clause-front
returns-in-Some-clause-front g c =
    fronts c.write.result c.args.self.now.nft c.in-Some.nft c.args.self.now.followed c.args.self.now.has_begun _ _ c.in-Some.is c.write.ensures.front
