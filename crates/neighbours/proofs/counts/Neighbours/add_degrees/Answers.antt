use Rattle.neighbours.proofs.DegreeRows.{degrees_depth, parent_ready, child_ready, arc_done, count_ready, count_done}
use Rattle.neighbours.proofs.counts.Neighbours.add_degrees.Goals as goal

pub add_degree-requires : goal.add_degree-requires
add_degree-requires c = parent_ready c.args.self.now c.args.place c.requires c.in-OfArc.is

pub add_degree-requires-in-OfArc : goal.add_degree-requires-in-OfArc
add_degree-requires-in-OfArc c = child_ready c.args.self.now c.args.place c.requires c.in-OfArc.is c.add_degree.ensures

pub add_degree-requires-in-Behind : goal.add_degree-requires-in-Behind
add_degree-requires-in-Behind c = count_ready c.args.self.now c.args.place c.requires c.in-Behind.is c.arcs_end-first.ensures.0 c.count_meter.ensures c.count_number-j.ensures

pub returns-in-OfDepth : goal.returns-in-OfDepth
returns-in-OfDepth c = degrees_depth c.args.self.now c.args.place c.requires c.in-OfDepth.is

pub returns-in-OfArc : goal.returns-in-OfArc
returns-in-OfArc c = arc_done c.args.self.now c.args.place c.requires c.in-OfArc.is c.add_degree.ensures c.add_degree-in-OfArc.ensures

pub returns-in-Behind : goal.returns-in-Behind
returns-in-Behind c = count_done c.args.self.now c.args.place c.requires c.in-Behind.is c.arcs_end-first.ensures.0 c.count_meter.ensures c.count_number-j.ensures c.add_degree-in-Behind.ensures
