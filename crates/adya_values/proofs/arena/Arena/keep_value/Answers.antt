use Rattle.adya_values.proofs.arena.Arena.keep_value.Goals as goal

pub returns : goal.returns
returns c = record {
  kept = c.add_value.ensures.kept;
  front = c.add_value.ensures.front;
  keys = c.add_value.ensures.keys;
  listings = c.add_value.ensures.listings;
  seen = c.add_value.ensures.seen;
  len = c.add_value.ensures.len;
  capacity = c.add_value.ensures.capacity;
  places = c.add_value.ensures.places;
  succeeds = c.add_value.ensures.succeeds;
}
