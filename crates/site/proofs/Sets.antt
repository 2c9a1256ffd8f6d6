-- What the search goes by in the functions of src/: for each that needs several laws a set of its name. Assumes nothing.
use Rattle.site.proofs.Chain.{named_high}
use Rattle.site.proofs.Walked.{free_start, free_out, free_bad, free_on, free_end, link_out, link_bad, link_end, checks_length, checks_head, checks_count, checks_walks}
use Rattle.site.proofs.Valid.{valid_checks, valid_long, valid_count, few_links}
use Rattle.site.proofs.Placed.{no_link, place_shows, place_fits}
use Rattle.site.proofs.Refused.{begin_number, begin_leaves, check_number, find_number, add_number, add_leaves, remove_number, remove_leaves}
use Rattle.site.proofs.Turns.{meters_read, first_read, free_read, count_read, link_read, next_read, pad_read, holds_test, free_by, fits_by}
use Rattle.site.proofs.Filling.{walking_start, walking_turn, stored_end, last_end, image_links, image_place, count_links, over_front, take_over}
use Rattle.site.proofs.Calls.{handed, number_above, low_min, high_max, taken, ends_bytes, place_asks, record_asks, count_asks, read_meters_told, read_links_told}

-- ---- src/fields.rt
pub ruleset read_record = (link_read, next_read, pad_read)

-- ---- src/rules.rt
pub ruleset walk_links = (first_read, named_high, walking_start, walking_turn, fits_by, link_out, link_bad, link_end, stored_end, last_end)

pub ruleset frees_ok = (free_read, named_high, free_by, free_start, free_out, free_bad, free_on, free_end)

pub ruleset read_image = (count_read, meters_read, valid_checks, checks_length, checks_head, checks_count, checks_walks, image_links, image_place, count_links, over_front)

-- ---- src/edits.rt
-- insert and delete
pub ruleset relinks = (free_read, count_read)

pub ruleset holds_link = (named_high, no_link, holds_test)

pub ruleset find = (meters_read, find_number, low_min, high_max, taken, ends_bytes, place_fits, place_shows, valid_long)

-- ---- src/lib.rt
pub ruleset begin = (begin_number, begin_leaves)

pub ruleset add = (handed, number_above, free_read, add_number, add_leaves, place_asks)

pub ruleset remove = (handed, number_above, remove_number, remove_leaves, place_asks, record_asks, count_asks)

pub ruleset read = (handed, check_number, meters_read, count_read, read_meters_told, read_links_told, valid_long, valid_count, few_links, count_links, over_front, take_over)
