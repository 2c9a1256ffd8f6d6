-- What the type of arcs says of the links, as a record. Assumes nothing.
use Rattle.links.specs.Survey.{IsGraph}
use Rattle.arcs.specs.declared.layout.Arcs.{Arcs}

pub graph : (a : Arcs) → IsGraph a.layout.meters a.links.now
graph a = record { few_meters = a.layout.meters_high; few = a.few; each = a.each; rises = a.rises }
