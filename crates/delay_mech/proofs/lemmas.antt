pub mod MedianLemmas
pub mod DelaysViewLemmas
pub mod DelaySumLemmas
