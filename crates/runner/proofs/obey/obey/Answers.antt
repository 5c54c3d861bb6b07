use Rattle.std.proofs.Common.{◌≡◌, length, take, refl, ap, w32, to_z, of_z, rules}
use Rattle.family.specs.Meaning.{meaning}
use Rattle.loop_file.specs.Lines.{order}
use Rattle.runner.proofs.Obeys.{by_call, by_show}
use Rattle.runner.proofs.obey.obey.Goals as goal

pub returns-in-Block : goal.returns-in-Block
returns-in-Block g c =
    by_call (meaning g.F.Family) (λ h. h) _ _ _ _ _ _ _ c.block.result _ _ _ (ap order c.in-Block.is) (search rules) refl c.requires.at c.requires.rows
    (c.block.ensures.tried (take c.args.at c.args.reply.now) (length c.args.reply.now)) c.block.ensures.entered

pub returns-in-Wire : goal.returns-in-Wire
returns-in-Wire g c =
    by_call (meaning g.F.Family) (λ _. 0) _ _ _ _ _ _ _ c.wire.result _ _ _ (ap order c.in-Wire.is) (search rules) refl c.requires.at c.requires.rows
    (c.wire.ensures c.args.records.now c.args.signals.now (take c.args.at c.args.reply.now) (length c.args.reply.now)) refl

pub returns-in-Cut : goal.returns-in-Cut
returns-in-Cut g c =
    by_call (meaning g.F.Family) (λ _. 0) _ _ _ _ _ _ _ c.cut.result _ _ _ (ap order c.in-Cut.is) (search rules) refl c.requires.at c.requires.rows
    (c.cut.ensures c.args.records.now c.args.signals.now (take c.args.at c.args.reply.now) (length c.args.reply.now)) refl

pub returns-in-Drop : goal.returns-in-Drop
returns-in-Drop g c =
    by_call (meaning g.F.Family) (λ _. 0) _ _ _ _ _ _ _ c.remove.result _ _ _ (ap order c.in-Drop.is) (search rules) refl c.requires.at c.requires.rows
    (c.remove.ensures c.args.records.now c.args.signals.now (take c.args.at c.args.reply.now) (length c.args.reply.now)) refl

pub returns-in-Tune : goal.returns-in-Tune
returns-in-Tune g c =
    by_call (meaning g.F.Family) (λ _. 0) _ _ _ _ _ _ _ c.tune.result _ _ _ (ap order c.in-Tune.is) (search rules) refl c.requires.at c.requires.rows
    (c.tune.ensures c.args.signals.now (take c.args.at c.args.reply.now) (length c.args.reply.now)) refl

pub returns-in-Feed : goal.returns-in-Feed
returns-in-Feed g c =
    let n : to_z w32 (of_z w32 c.in-Feed.number) ≡ c.in-Feed.number = search rules in
    by_call (meaning g.F.Family) (λ _. 0) _ _ _ _ _ _ _ c.feed.result _ _ _ (ap order c.in-Feed.is) (search rules) refl c.requires.at c.requires.rows
    (simp n at (c.feed.ensures c.args.signals.now (take c.args.at c.args.reply.now) (length c.args.reply.now))) refl

pub returns-in-Show : goal.returns-in-Show
returns-in-Show g c = by_show (meaning g.F.Family) _ _ _ _ _ _ _ _ (ap order c.in-Show.is) c.requires.at (search rules) (c.show.ensures c.args.records.now)
