pub mod Searches
pub mod Tables
pub mod Turns
pub mod Counts
pub mod Solutions
pub mod Fans
pub mod StripCosts
pub mod InRegions
