use Rattle.ptp_profile.specs.Roles.Edges.{revokes, grants}
use Rattle.role_gen.proofs.lemmas.OrderLemmas.{put_together}
use Rattle.role_gen.proofs.order.orders.Goals as goal

pub returns-clause-orders : goal.returns-clause-orders
returns-clause-orders c =
    put_together c.put_revokes-revokes.result c.put_grants.result c.put_grants.new.out c.put_revokes-revokes.new.out c.args.out.now
    (revokes c.args.gener c.args.old.now c.args.new.now) (grants c.args.gener c.args.old.now c.args.new.now)
    c.put_grants.ensures.count c.put_grants.ensures.front c.put_revokes-revokes.ensures.front c.put_grants.ensures.rest c.put_revokes-revokes.ensures.rest
